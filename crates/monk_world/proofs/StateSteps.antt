-- From the change of the words and the floor to a step of the state
use Rattle.std.proofs.Common.{◌≡◌, ℕ, ◌+◌, ◌%◌, ◌==◌, ◌<◌, cond, Bool, true, false, length, ◌||◌}
use Rattle.std.proofs.Common.{sym, ap, ◌∙◌, subst, arith}
use Rattle.std.proofs.lemmas.Bool.{eqb-true, cases_lt, Decides.nat_tests}
use Rattle.std.specs.Prelude.{nat_le, slice_index_or, Some, None}
use Rattle.monk_kinds.specs.{Kind.IsKind, declared.mode.Pick.Pick, declared.mode.Rules.Rules}
use Rattle.monk_object.specs.{Object.Object, declared.op.Op.Op}
use Rattle.monk_history.specs.declared.event.Next.TheVariants as next
use Rattle.monk_history.proofs.PublicLaws.Meaning.{legal_last}
use Rattle.monk_history.specs.Meaning.{Conditions.condition, Events.is_stay, Monitor.data_of, Release.with_next}
use Rattle.monk_history.specs.Meaning.{Turn.turn, Reasons.IsAllowed}
use Rattle.monk_history.specs.declared.event.Next.{Next}
use Rattle.monk_history.specs.declared.event.Event.{Event, TheVariants.Act, TheVariants.SignalAll}
use Rattle.monk_floor.specs.{Grown.IsGrown, View.FloorView, View.monitor_of}
use Rattle.monk_world.specs.declared.answer.Answer.TheVariants as answer
use Rattle.monk_world.specs.declared.command.Command.TheVariants as command
use Rattle.monk_world.proofs.{BoundLaws.few_drawn, SoundFloor.sound_out}
use Rattle.monk_world.proofs.DoneLaws.{IsReady, ready, kept_done}
use Rattle.monk_world.specs.{Kept.IsKept, Update.update, State.State, State.with_event}
use Rattle.monk_world.specs.StepTable.{may_be_told, names_entry, is_back, refusal, release_next, out_event, IsDone}
use Rattle.monk_world.specs.StepTable.{IsReleased}
use Rattle.monk_world.specs.WorldViews.{WorldView, state_of_view, view_in, state_in, world_on, Shows, ShowsKnown}
use Rattle.monk_world.specs.declared.{answer.Answer.Answer, command.Command.Command, home.Home.Home}
use Rattle.monk_world.specs.declared.{source.Source.Source, words.WorldWords.WorldWords}
use Rattle.monk_world.specs.declared.place.Place.{Place}
use Rattle.monk_world.specs.declared.place.Place.TheVariants.{Idle, Ticket, Due, Active, Back, Passing, Inner}
use Rattle.monk_world.specs.Places.{stage, back_turn, turn_of_next, due_to, outside_stage, active_stage}
use Rattle.monk_world.specs.Steps.{after_arrive, after_ticket_look, after_seat_look, after_floor_out, after_floor_in}
use Rattle.monk_world.specs.Steps.{after_drop, after_ticket_grant, after_seat_grant}

idle_is : (p : Place) → (stage p == outside_stage) ≡ true → p ≡ Idle
idle_is p e = grind (arith, nat_tests)

pub record IsActive (p : Place) : Type 0 where
  pub source : Source
  pub is : p ≡ Active source

pub active_is : (p : Place) → (stage p == active_stage) ≡ true → IsActive p
active_is p e = grind (arith, nat_tests)

entry_of : (x : Next) (to : Home) → names_entry x ≡ true → Back x to ≡ Back next.Entry to
entry_of x to e = grind (arith, nat_tests)

-- if it may drop, it chose entry
pub entry_is : (p : Place) (x : Next) (to : Home) → p ≡ Back x to → is_back names_entry p ≡ true
    → p ≡ Back next.Entry to
entry_is p x to is e = is ∙ entry_of x to (sym (ap (λ (q : Place). is_back names_entry q) is) ∙ e)

-- a world with these words and this floor, seen as v
module _ (k : Rules) (o : Object) (w : WorldWords) (f : FloorView) (v : WorldView) (is : view_in w f ≡ v) (i : ℕ) where
  abbrev s : State
  s = state_in w f

  pub free_here : (c : Command) → refusal k o (state_of_view v) i c ≡ None → refusal k o s i c ≡ None
  free_here c e = subst (λ (u : WorldView). refusal k o (state_of_view u) i c ≡ None) (sym is) e

  pub returned : (c : Command) (a : Answer) (t : State) → IsDone k o s i (s.world.place i) c a t
      → IsDone k o (state_of_view v) i ((state_of_view v).world.place i) c a t
  returned c a t d = grind (arith, nat_tests)

  pub kept : (c : Command) (a : Answer) (new : WorldWords) (g : FloorView) (conds : ℕ) → IsKind k
      → IsKept k o w.seats conds s → refusal k o (state_of_view v) i c ≡ None → new.seats ≡ w.seats
      → IsDone k o s i (s.world.place i) c a (state_in new g) → IsKept k o new.seats conds (state_in new g)
  kept c a new g conds kind old free same d =
      subst (λ (n : ℕ). IsKept k o n conds (state_in new g)) (sym same)
      (kept_done k o s i c a (state_in new g) w.seats conds kind old (free_here c free) d)

  pub ready_here : (c : Command) → refusal k o (state_of_view v) i c ≡ None → IsReady k o s i c
  ready_here c free = ready k o s i c (free_here c free)

  abbrev Goes : Command → Answer → State → Type 0
  Goes c a t = IsDone k o s i (s.world.place i) c a t

  at_place : (p : Place) (c : Command) (a : Answer) (t : State) → s.world.place i ≡ p → IsDone k o s i p c a t
      → Goes c a t
  at_place p c a t at d = subst (λ (q : Place). IsDone k o s i q c a t) (sym at) d

  pub arrive_goes : (a : Answer) (new : WorldWords) → refusal k o (state_of_view v) i command.Arrive ≡ None
      → a ≡ answer.Arrived w.drawn w.unpassed → Shows w (after_arrive (world_on w) i) new
      → Goes command.Arrive a (state_in new f)
  arrive_goes a new free is_a shows =
      at_place Idle command.Arrive a (state_in new f)
      (idle_is (s.world.place i) ((ready_here command.Arrive free).told)) (is_a, shows.state f)

  pub ticket_look_goes : (n : ℕ) (a : Answer) (new : WorldWords) (conds : ℕ) → IsKept k o w.seats conds s
      → s.world.place i ≡ Ticket n
      → a ≡ answer.Looked ((world_on w).ticket_place (n % w.seats) == n + 1)
      → Shows w (after_ticket_look (world_on w) i n ((world_on w).ticket_place (n % w.seats) == n + 1)) new
      → Goes command.Look a (state_in new f)
  ticket_look_goes n a new conds old at is_a shows =
      at_place (Ticket n) command.Look a (state_in new f) at
      (subst (λ (m : ℕ). (a ≡ answer.Looked ((world_on w).ticket_place (n % m) == n + 1))
      × (state_in new f ≡ record s
      { world = after_ticket_look (world_on w) i n ((world_on w).ticket_place (n % m) == n + 1) })) old.seats_are
      (is_a, shows.state f))

  pub seat_look_goes : (a : Answer) (new : WorldWords) → s.world.place i ≡ Inner
      → a ≡ answer.Looked ((world_on w).seat_place i == (world_on w).count i + 1)
      → Shows w (after_seat_look (world_on w) i ((world_on w).seat_place i == (world_on w).count i + 1)) new
      → Goes command.Look a (state_in new f)
  seat_look_goes a new at is_a shows = at_place Inner command.Look a (state_in new f) at (is_a, shows.state f)

  pub active_peek_goes : (q : Source) (a : Answer) (new : WorldWords) → s.world.place i ≡ Active q
      → a ≡ answer.Found w.unpassed
      → ShowsKnown w (world_on w)
      (update (λ j. slice_index_or w.known.items j false) i
      (slice_index_or w.known.items i false || nat_le 2 w.unpassed)) new → Goes command.Peek a (state_in new f)
  active_peek_goes q a new at is_a shows = at_place (Active q) command.Peek a (state_in new f) at (is_a, shows.state f)

  pub drop_goes : (to : Home) (a : Answer) (new : WorldWords) → s.world.place i ≡ Back next.Entry to
      → a ≡ answer.Found w.unpassed → Shows w (after_drop (world_on w) i to) new → Goes command.Drop a (state_in new f)
  drop_goes to a new at is_a shows =
      at_place (Back next.Entry to) command.Drop a (state_in new f) at (is_a, shows.state f)

  pub ticket_grant_goes : (n : ℕ) (to : Home) (a : Answer) (new : WorldWords) (conds : ℕ) → IsKept k o w.seats conds s
      → s.world.place i ≡ Passing n to
      → a ≡ answer.GrantedTicket n → Shows w (after_ticket_grant w.seats (world_on w) i n to) new
      → Goes command.Grant a (state_in new f)
  ticket_grant_goes n to a new conds old at is_a shows =
      at_place (Passing n to) command.Grant a (state_in new f) at (
        is_a,
        subst (λ (m : ℕ). state_in new f ≡ record s { world = after_ticket_grant m (world_on w) i n to })
            old.seats_are (shows.state f),
      )

  pub waiter_grant_goes : (j : ℕ) (to : Home) (a : Answer) (new : WorldWords)
      → s.world.place i ≡ Back (next.Waiter j) to
      → a ≡ answer.GrantedSeat j → Shows w (after_seat_grant (world_on w) i j to) new
      → Goes command.Grant a (state_in new f)
  waiter_grant_goes j to a new at is_a shows =
      at_place (Back (next.Waiter j) to) command.Grant a (state_in new f) at (is_a, shows.state f)

  pub signaller_grant_goes : (j : ℕ) (to : Home) (a : Answer) (new : WorldWords)
      → s.world.place i ≡ Back (next.Signaller j) to → a ≡ answer.GrantedSeat j
      → Shows w (after_seat_grant (world_on w) i j to) new → Goes command.Grant a (state_in new f)
  signaller_grant_goes j to a new at is_a shows =
      at_place (Back (next.Signaller j) to) command.Grant a (state_in new f) at (is_a, shows.state f)

  pub until_grant_goes : (j : ℕ) (to : Home) (a : Answer) (new : WorldWords) → s.world.place i ≡ Back (next.Until j) to
      → a ≡ answer.GrantedSeat j → Shows w (after_seat_grant (world_on w) i j to) new
      → Goes command.Grant a (state_in new f)
  until_grant_goes j to a new at is_a shows =
      at_place (Back (next.Until j) to) command.Grant a (state_in new f) at (is_a, shows.state f)

  pub out_goes : (q : Source) (a : Answer) (new : WorldWords) (g : FloorView) → s.world.place i ≡ Due q
      → g ≡ with_event f (out_event i q (turn f.history)) → a ≡ answer.Now
      → ShowsKnown w (after_floor_out (world_on w) i q) (update (λ j. slice_index_or w.known.items j false) i false) new
      → Goes command.Out a (state_in new g)
  out_goes q a new g at grows is_a shows =
      at_place (Due q) command.Out a (state_in new g) at (
        is_a,
        shows.state g ∙ ap
            (λ (x : FloorView). record (state_in w x) {
              world = after_floor_out (world_on w) i q;
              known =
                  update (λ j. slice_index_or w.known.items j false) i false;
            }) grows,
      )

  release_goes : (e : Event) (pick : Pick) (to : Home) (x : Next) (known : Bool) (a : Answer) (new : WorldWords)
      (g : FloorView) → known ≡ slice_index_or w.known.items i false
      → x ≡ release_next k o (record s { known = λ j. known }) i e pick → g ≡ with_event f (with_next x e)
      → a ≡ answer.Chose x → Shows w (cond (is_stay (Some x)) (world_on w) (after_floor_in (world_on w) i x to)) new
      → IsReleased k o s i e pick to a (state_in new g)
  release_goes e pick to x known a new g knows chooses grows is_a shows =
      let same : x ≡ release_next k o s i e pick = chooses
      ∙ ap (λ (b : Bool). release_next k o (record s { known = λ j. b }) i e pick) knows in (
        is_a ∙ ap answer.Chose same,
        shows.state g
            ∙ (ap (λ (y : FloorView). record (state_in w y)
            { world = cond (is_stay (Some x)) (world_on w) (after_floor_in (world_on w) i x to) }) grows
            ∙ ap (λ (y : Next). record s {
              world = cond (is_stay (Some y)) (world_on w) (after_floor_in (world_on w) i y to);
              floor =
                  with_event f (with_next y e);
            }) same),
      )

  pub act_goes : (op : Op) (reply : ℕ) (a : Answer) (g : FloorView)
      → refusal k o (state_of_view v) i (command.Act op) ≡ None → IsGrown k o f (Act i op reply) g
      → a ≡ answer.Reply reply → Goes (command.Act op) a (state_in w g)
  act_goes op reply a g free grows is_a =
      let at = active_is (s.world.place i) ((ready_here (command.Act op) free).told) in
      let same : reply ≡ o.reply (data_of (monitor_of k o f) f.history) op = eqb-true _ _ (grows.allowed.right_reply) in
      grind (arith, nat_tests, at_place)

  pub signal_all_goes : (c served : ℕ) (a : Answer) (g : FloorView)
      → refusal k o (state_of_view v) i (command.SignalAll c) ≡ None → g ≡ with_event f (SignalAll i c)
      → served ≡ length (condition c f.history) → a ≡ answer.Woke served → Goes (command.SignalAll c) a (state_in w g)
  signal_all_goes c served a g free grown served_is is_a =
      let at = active_is (s.world.place i) ((ready_here (command.SignalAll c) free).told) in
      grind (arith, nat_tests, at_place)

  pub out_allowed : (q : Source) (conds : ℕ) → IsKept k o w.seats conds s
      → refusal k o (state_of_view v) i command.Out ≡ None → s.world.place i ≡ Due q
      → IsAllowed (monitor_of k o f) f.history (out_event i q (turn f.history))
  out_allowed q conds old free at =
      let out =
      sound_out k o s old.sound.right old.sound.owner old.sound.is_sound i
      ((ready_here command.Out free).near) q at in
      legal_last (monitor_of k o f) f.history (out_event i q (turn f.history)) out.is_sound.legal

  at_active : (c : Command) (a : Answer) (t : State) → refusal k o (state_of_view v) i c ≡ None
      → may_be_told (s.world.place i) c ≡ (stage (s.world.place i) == active_stage)
      → ((q : Source) → IsDone k o s i (Active q) c a t) → Goes c a t
  at_active c a t free active d =
      let at = active_is (s.world.place i) (sym active ∙ (ready_here c free).told) in
      at_place (Active at.source) c a t at.is (d at.source)

  -- a release is done as its command says, and keeps what a world keeps
  pub release_done : {x : Next} {known : Bool} {a : Answer} {new : WorldWords} {g : FloorView} (c : Command) (e : Event)
      (pick : Pick) (to : Home) → refusal k o (state_of_view v) i c ≡ None
      → may_be_told (s.world.place i) c ≡ (stage (s.world.place i) == active_stage)
      → ((q : Source) → IsReleased k o s i e pick to a (state_in new g)
      → IsDone k o s i (Active q) c a (state_in new g))
      → known ≡ slice_index_or w.known.items i false
      → x ≡ release_next k o (record s { known = λ j. known }) i e pick → g ≡ with_event f (with_next x e)
      → a ≡ answer.Chose x → Shows w (cond (is_stay (Some x)) (world_on w) (after_floor_in (world_on w) i x to)) new
      → IsDone k o (state_of_view v) i ((state_of_view v).world.place i) c a (state_in new g)
      × ((conds : ℕ) → IsKind k → IsKept k o w.seats conds s → new.seats ≡ w.seats
      → IsKept k o new.seats conds (state_in new g))
  release_done {x = x} {known = known} {a = a} {new = new}
      {g = g} c e pick to free active does knows chooses grows is_a shows =
      let goes = at_active c a (state_in new g) free active
      (λ q. does q (release_goes e pick to x known a new g knows chooses grows is_a shows)) in
      (returned c a (state_in new g) goes, λ conds kind old same. kept c a new g conds kind old free same goes)

  -- no word is too great
  pub drawn_here : (conds : ℕ) → IsKept k o w.seats conds s → w.drawn < 2147483648
  drawn_here conds old = few_drawn s old.bounded

  pub ticket_here : (n conds : ℕ) → IsKept k o w.seats conds s → s.world.place i ≡ Ticket n → n < 2147483648
  ticket_here n conds old at = grind (arith, nat_tests, drawn_here)

  pub passing_here : (n : ℕ) (to : Home) (conds : ℕ) → IsKept k o w.seats conds s
      → s.world.place i ≡ Passing n to → n < 2147483648
  passing_here n to conds old at = grind (arith, nat_tests, drawn_here)

  pub called_here : (x : Next) (to : Home) (j conds : ℕ) → IsKept k o w.seats conds s → s.world.place i ≡ Back x to
      → turn_of_next x ≡ due_to j → j < w.seats
  called_here x to j conds old at names =
      let r = old.sound.is_sound.stands.keeps in
      let six = r.calls.chose i (ap stage at) j (subst (λ (p : Place). back_turn p ≡ due_to j) (sym at) names) in
      grind (arith, nat_tests, cases_lt)
