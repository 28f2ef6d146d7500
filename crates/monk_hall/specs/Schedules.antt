-- Every schedule of the table's steps, and the one history to which it leads
use Rattle.std.specs.Prelude.{◌≡◌, ◌≢◌, ℕ, ◌+◌, ◌==◌, ◌<◌, ◌≤◌, ◌⊎◌, true, false, List, [], ◌∷◌, ◌++◌}
use Rattle.std.specs.Prelude.{length, replicate, set, slice_index, Some, None, if◌then◌else◌}
use mathlib.Core.Option.{none, some}
use lib.ListN.{get_elem?}
use Rattle.atomic_table.specs.Table as table
use Rattle.monk_kinds.specs.{Kind.IsKind, declared.mode.Rules.Rules, declared.mode.Pick.Pick}
use Rattle.monk_object.specs.Object.{Object}
use Rattle.monk_history.specs.Meaning.{Events.seat_of, Events.is_stay, Reasons.IsAllowed, Turn.turn}
use Rattle.monk_history.specs.Meaning.Counts.{granted_of, enters_of, events_of, left_of, is_enter}
use Rattle.monk_history.specs.Meaning.Release.{MayCall, with_next, choice_of}
use Rattle.monk_history.specs.declared.event.{Event.Event, Next.Next, Next.TheVariants.Entry}
use Rattle.monk_floor.specs.{Making.make_refusal, View.FloorView, View.monitor_of, View.stands_of}
use Rattle.monk_world.specs.{OnePlace.IsInOnePlace, Runs.IsWellLed, Sound.left_within, State.is_quiet, State.with_event}
use Rattle.monk_world.specs.{StepTable.out_event, declared.home.Home.Home, declared.place.Place.TheVariants.Idle}
use Rattle.monk_world.specs.{declared.place.Place.TheVariants.Back, declared.source.Source.Source}
use Rattle.monk_world.specs.Places.{stage, ticket, back_turn, due_to, ticketed_stage, due_stage, active_stage}
use Rattle.monk_world.specs.Places.{passing_stage, inside_stage}
use Rattle.monk_hall.specs.{Records.View, Records.first_view, Rule.IsHall, Rule.Homes, Tells.IsReleaseTo}
use Rattle.monk_hall.specs.Floors.{StartsWith, IsPrivate, ArePrivate}
use Rattle.monk_hall.specs.Deeds.{brings, brought_home, knows}
use Rattle.monk_hall.specs.declared.{record.SeatRecord.SeatRecord, setting.Setting.Setting}
use Rattle.monk_hall.specs.declared.deed.Deed.{Deed}
use Rattle.monk_hall.specs.declared.deed.Deed.TheVariants.{Arrive, LookForTicket, LookForCall, Peek, FloorOut, FloorIn}
use Rattle.monk_hall.specs.declared.deed.Deed.TheVariants.{Drop, GrantTicket, CallSeat, Meet}
use Rattle.monk_hall.specs.Changes.{record_after_arrive, record_after_ticket_look, record_after_seat_look}
use Rattle.monk_hall.specs.Changes.{record_after_peek, record_after_floor_out, record_after_floor_in, record_after_drop}
use Rattle.monk_hall.specs.Changes.{record_after_grant, view_after_join, view_after_compare, source_from}
use Rattle.monk_hall.specs.Laws.{HallState, IsRecord, IsHomeHistory, first_word}
use Rattle.monk_hall.specs.Layout.{tickets, unpassed, one_drawn, one_passed, ticket_word, seat_word, word_count}
use Rattle.monk_hall.specs.Layout.{floor_of, shown_state, shown_world}

-- a step of the table
pub data Step : Type 0 where
  -- seat i does this. Its view has this number, and no other seat's record
  By : ℕ → ℕ → Deed → Step
  -- split: the first record of a view goes to a new view, when each seat gets its pass. Or the second of two does,
  -- after a meeting
  Deal : ℕ → Step
  Part : ℕ → Step
  -- join: the view of seat i takes in another's record. Then both seats of the view learn the longer history, by a
  -- step of the second, which is i
  Join : ℕ → ℕ → ℕ → Step
  Compare : ℕ → ℕ → Step

-- the event with which the active seat of this record came in
abbrev pub came_in : SeatRecord → Event
came_in r = out_event r.seat (source_from r.place) (turn r.seen)

-- seat i appends these to the history of the floor in its hands, by a call each. They are its own events, each
-- allowed after those before it, and they keep the turn with it
abbrev pub ArePlayed : Rules → Object → ℕ → FloorView → List Event → Type 0
ArePlayed k o i f [] = Unit {0}
ArePlayed k o i f (e ∷ es) = IsPrivate i e × IsAllowed (monitor_of k o f) f.history e
    × (length (events_of f.history i) < f.budget) × ArePlayed k o i (with_event f e) es

-- the release by which the seat returns the floor: a call that may be made there. Its choice is that of the wish
-- rules, by what the seat knows of the entry, and isn't to stay
pub record IsReleasedBy (k : Rules) (o : Object) (r : SeatRecord) (f : FloorView) (e : Event) : Type 0 where
  pub call : Event
  pub wish : Pick
  pub to : Home
  pub choice : Next
  pub release : IsReleaseTo r.seat to call
  pub may : MayCall (monitor_of k o f) f.history call
  pub left : left_within to < left_of f.budget f.history r.seat
  pub chosen : choice ≡ choice_of k o (stands_of k o f) call r.known wish
  pub away : is_stay (Some choice) ≡ false
  pub is : e ≡ with_next choice call

-- the table before any step
abbrev pub opening_table : Setting → HallState
opening_table c = table.opening (replicate (word_count c.seats) 0) (Some (floor_of c []) ∷ []) (first_view c)

-- the table after a step of the seat with view number `id`. Its record is w now
abbrev pub after_step : HallState → ℕ → List ℕ → Homes → SeatRecord → HallState
after_step s id words homes w = record { words = words; homes = homes; views = set s.views id (w ∷ []) }

-- the seat with record r, alone in view number `id`, does this, and then the table is t
abbrev pub IsDone : Rules → Object → Setting → HallState → ℕ → SeatRecord → Deed → HallState → Type 0
IsDone k o c s id r (Arrive n m) t = (r.place ≡ Idle) × (length r.mine + 2 ≤ r.setting.budget)
    × (n ≡ tickets (first_word s)) × (m ≡ unpassed (first_word s))
    × (t ≡ after_step s id (set s.words 0 (one_drawn (first_word s))) s.homes
    (record_after_arrive r (first_word s)))
IsDone k o c s id r (LookForTicket b) t = (found : ℕ) × (stage r.place ≡ ticketed_stage)
    × (found ≡ slice_index s.words (ticket_word c.seats (ticket r.place))) × (b ≡ (found == ticket r.place + 1))
    × (t ≡ after_step s id s.words s.homes (record_after_ticket_look r found))
IsDone k o c s id r (LookForCall b) t = (found : ℕ) × (stage r.place ≡ inside_stage)
    × (found ≡ slice_index s.words (seat_word r.seat)) × (b ≡ (found == r.count + 1))
    × (t ≡ after_step s id s.words s.homes (record_after_seat_look r found))
IsDone k o c s id r (Peek n) t = (stage r.place ≡ active_stage) × (n ≡ unpassed (first_word s))
    × (t ≡ after_step s id s.words s.homes (record_after_peek r (first_word s)))
IsDone k o c s id r FloorOut t = (f : FloorView) × (stage r.place ≡ due_stage)
    × (get_elem? s.homes 0 ≡ some (some (Some f)))
    × (t ≡ after_step s id s.words (set s.homes 0 none) (record_after_floor_out r f.history))
IsDone k o c s id r (FloorIn es) t = (since : List Event) × (e : Event) × (stage r.place ≡ active_stage)
    × ArePlayed k o r.seat (floor_of c (r.seen ++ came_in r ∷ [])) since
    × IsReleasedBy k o r (floor_of c ((r.seen ++ came_in r ∷ []) ++ since)) e
    × (es ≡ came_in r ∷ (since ++ e ∷ []))
    × (t ≡ after_step s id s.words (set s.homes 0 (some (Some (floor_of c (r.seen ++ es)))))
    (record_after_floor_in r (r.seen ++ es)))
IsDone k o c s id r (Drop n) t = (to : Home) × (r.place ≡ Back Entry to) × (n ≡ unpassed (first_word s))
    × (t ≡ after_step s id (set s.words 0 (one_passed (first_word s))) s.homes
    (record_after_drop r (first_word s)))
IsDone k o c s id r (GrantTicket n) t = (stage r.place ≡ passing_stage) × (n ≡ ticket r.place)
    × (t ≡ after_step s id (set s.words (ticket_word c.seats n) (n + 1)) s.homes (record_after_grant r (GrantTicket n)))
IsDone k o c s id r (CallSeat m) t = (back_turn r.place ≡ due_to m)
    × (t ≡ after_step s id (set s.words (seat_word m) (granted_of r.seen m)) s.homes
    (record_after_grant r (CallSeat m)))
IsDone k o c s id r Meet t = ⊥

-- a step leads from the table s to the table t
abbrev pub IsStep : Rules → Object → Setting → HallState → Step → HallState → Type 0
IsStep k o c s (By i id d) t =
    (r : SeatRecord) × (get_elem? s.views id ≡ some (r ∷ [])) × (r.seat ≡ i) × IsDone k o c s id r d t
IsStep k o c s (Deal id) t =
    (r : SeatRecord) × (rs : View) × (get_elem? s.views id ≡ some (r ∷ rs))
    × (t ≡ record s { views = set s.views id rs ++ (r ∷ []) ∷ [] })
IsStep k o c s (Part id) t =
    (a : SeatRecord) × (b : SeatRecord) × (get_elem? s.views id ≡ some (a ∷ b ∷ []))
    × (t ≡ record s { views = set s.views id (a ∷ []) ++ (b ∷ []) ∷ [] })
IsStep k o c s (Join i id other) t =
    (a : SeatRecord) × (b : SeatRecord) × (get_elem? s.views id ≡ some (a ∷ []))
    × (get_elem? s.views other ≡ some (b ∷ [])) × (other ≢ id) × (a.place ≡ Idle) × (a.seat ≡ i)
    × (t ≡ record s { views = set (set s.views id (view_after_join (a ∷ []) (b ∷ []))) other [] })
IsStep k o c s (Compare i id) t =
    (a : SeatRecord) × (b : SeatRecord) × (get_elem? s.views id ≡ some (a ∷ b ∷ [])) × (a.place ≡ Idle)
    × (b.place ≡ Idle) × (b.seat ≡ i) × (t ≡ record s { views = set s.views id (view_after_compare (a ∷ b ∷ [])) })

-- a schedule: these steps in this order lead from s to t
abbrev pub IsSchedule : Rules → Object → Setting → HallState → List Step → HallState → Type 0
IsSchedule k o c s [] t = t ≡ s
IsSchedule k o c s (x ∷ xs) t = (u : HallState) × IsStep k o c s x u × IsSchedule k o c u xs t

-- some schedule leads to this table from the one with which the hall was made. This is the rule that every step keeps
abbrev pub IsReached : Rules → Object → Setting → HallState → Type 0
IsReached k o c s = (make_refusal c.seats c.conds c.budget ≡ None)
    × (steps : List Step) × IsSchedule k o c (opening_table c) steps s

-- the deeds of seat j in a step
abbrev pub deeds_in : ℕ → Step → List Deed
deeds_in j (By i id d) = if i == j then d ∷ [] else []
deeds_in j (Join i id other) = if i == j then Meet ∷ [] else []
deeds_in j (Compare i id) = if i == j then Meet ∷ [] else []
deeds_in j _ = []

-- the deeds of seat j in these steps, in order
abbrev pub deeds_by : ℕ → List Step → List Deed
deeds_by j [] = []
deeds_by j (x ∷ xs) = deeds_in j x ++ deeds_by j xs

-- the events that a step takes home, of any seat
abbrev pub brought_in : Step → List Event
brought_in (By i id d) = brings d
brought_in _ = []

-- all events that these steps take home, in order
abbrev pub brought : List Step → List Event
brought [] = []
brought (x ∷ xs) = brought_in x ++ brought xs

-- the seat that drew a ticket by a deed, if the deed did
abbrev pub drew : ℕ → Deed → List ℕ
drew i (Arrive n m) = i ∷ []
drew i _ = []

-- the seat that drew a ticket by a step, if the step did
abbrev pub drew_in : Step → List ℕ
drew_in (By i id d) = drew i d
drew_in _ = []

-- the seats that drew a ticket, in order. The one with k before it has ticket k
abbrev pub arrivals : List Step → List ℕ
arrivals [] = []
arrivals (x ∷ xs) = drew_in x ++ arrivals xs

-- the seats that entered, in order
abbrev pub entered : List Event → List ℕ
entered [] = []
entered (e ∷ es) = (if is_enter e then seat_of e ∷ [] else []) ++ entered es

-- what seat i takes home after these steps: the event with which it came in, events of its own that keep the turn
-- with it, and a release that chose by the wish rules. It knew of somebody at the entry only by a look of its own
pub record IsLedRelease (k : Rules) (o : Object) (c : Setting) (steps : List Step) (s : HallState) (i : ℕ)
    (es : List Event) : Type 0 where
  pub source : Source
  pub since : List Event
  pub call : Event
  pub wish : Pick
  pub choice : Next
  pub before : List Event
  pub before_is : before ≡ brought steps ++ out_event i source (turn (brought steps)) ∷ since
  pub brings : brought steps ++ es ≡ before ++ with_next choice call ∷ []
  pub own : ArePrivate i since
  pub seat : seat_of (with_next choice call) ≡ i
  pub chosen : choice ≡ choice_of k o (stands_of k o (floor_of c before)) call (knows (deeds_by i steps)) wish
  -- if it chose entry although somebody could have been chosen from a queue, a ticket waits
  pub waited_for : choice ≡ Entry
      → (is_quiet k o (floor_of c (brought steps ++ es)) ≡ true) ⊎ (2 ≤ unpassed (first_word s))

-- what holds for a next step: tickets are drawn in order of their numbers, a release is as above, and the ticket that
-- is granted is that of the seat that enters next
abbrev pub IsLedStep : Rules → Object → Setting → List Step → HallState → Step → Type 0
IsLedStep k o c steps s (By i id (Arrive n m)) = n ≡ length (arrivals steps)
IsLedStep k o c steps s (By i id (FloorIn es)) = IsLedRelease k o c steps s i es
IsLedStep k o c steps s (By i id (GrantTicket n)) = n ≡ enters_of (brought steps)
IsLedStep k o c steps s _ = Unit {0}

-- what a schedule leads to
pub record IsOneHistory (k : Rules) (o : Object) (c : Setting) (steps : List Step) (s : HallState) : Type 0 where
  -- words and records show a world: the right to be active is in one place, and turn and queues agree with the seats
  pub hall : IsHall k o c s
  pub right : IsInOnePlace c.seats (shown_world s.words hall.0)
  pub led : IsWellLed k o (shown_state c s.words hall.0 hall.2.history)
  -- the history at home is what the steps took home, in order. It is legal and begins with all that each seat has
  -- seen. Its events of each seat are exactly that seat's own
  pub home : IsHomeHistory k o c s (brought steps)
  -- for each beginning of the schedule: the history only grows
  pub grows : (before after : List Step) → steps ≡ before ++ after → StartsWith (brought steps) (brought before)
  -- what a seat has done is what it did in these steps, in order. Each call says which deeds its token has added;
  -- those are steps of the schedule
  pub did : (r : SeatRecord) → IsRecord s r → r.did ≡ deeds_by r.seat steps
  -- the history has the events of each seat that its own deeds took home, each once
  pub own : (j : ℕ) → events_of (brought steps) j ≡ brought_home (deeds_by j steps)
  -- seats enter in the order in which they drew their tickets
  pub in_order : (waiting : List ℕ) × (arrivals steps ≡ entered (brought steps) ++ waiting)
  -- a seat knows of somebody at the entry only by its own look
  pub known : (r : SeatRecord) → IsRecord s r → r.known ≡ knows r.did
  -- two active seats are the same
  pub one_active : (r q : SeatRecord) → IsRecord s r → IsRecord s q → stage r.place ≡ active_stage
      → stage q.place ≡ active_stage → r ≡ q
  -- what holds for any step that may come next
  pub next : (x : Step) (t : HallState) → IsStep k o c s x t → IsLedStep k o c steps s x

-- this holds for every kind, object, number of seats and conditions, budget and schedule
abbrev pub EveryScheduleIsOneHistory : Type 0
EveryScheduleIsOneHistory =
    (k : Rules) (o : Object) (c : Setting) → IsKind k → make_refusal c.seats c.conds c.budget ≡ None
    → (steps : List Step) (s : HallState) → IsSchedule k o c (opening_table c) steps s → IsOneHistory k o c steps s
