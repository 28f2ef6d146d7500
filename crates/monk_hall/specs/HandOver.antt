-- The floor changes hands by a word: who takes it out has found what the seat that took it home has put there since
use Rattle.std.specs.Prelude.{◌≡◌, ◌≢◌, ℕ, Bool, true, false, List, [], ◌∷◌, ◌++◌, Option, Some, None, slice_index}
use Rattle.monk_kinds.specs.{Kind.IsKind, declared.mode.Rules.Rules}
use Rattle.monk_object.specs.Object.{Object}
use Rattle.monk_history.specs.declared.event.Event.{Event}
use Rattle.monk_floor.specs.Making.{make_refusal}
use Rattle.monk_world.specs.Places.{ticket}
use Rattle.monk_hall.specs.{Laws.HallState, Laws.IsRecord, Layout.seat_word, Layout.ticket_word}
use Rattle.monk_hall.specs.Schedules.{Step, By, IsStep, IsSchedule, opening_table}
use Rattle.monk_hall.specs.declared.{record.SeatRecord.SeatRecord, setting.Setting.Setting}
use Rattle.monk_hall.specs.declared.deed.Deed.{Deed}
use Rattle.monk_hall.specs.declared.deed.Deed.TheVariants.{Arrive, LookForTicket, LookForCall, FloorOut, FloorIn, Drop}
use Rattle.monk_hall.specs.declared.deed.Deed.TheVariants.{GrantTicket, CallSeat}

-- the word that a step writes, in a hall of `seats` seats: by an add, a subtraction or a store. A step that isn't
-- listed writes none
abbrev pub written_word : ℕ → Step → Option ℕ
written_word seats (By i id (Arrive n m)) = Some 0
written_word seats (By i id (Drop n)) = Some 0
written_word seats (By i id (GrantTicket n)) = Some (ticket_word seats n)
written_word seats (By i id (CallSeat m)) = Some (seat_word m)
written_word seats _ = None

-- the word that a seat with this record reads by a step that may give it the right
abbrev pub read_word : ℕ → SeatRecord → Deed → Option ℕ
read_word seats r (Arrive n m) = Some 0
read_word seats r (LookForTicket b) = Some (ticket_word seats (ticket r.place))
read_word seats r (LookForCall b) = Some (seat_word r.seat)
read_word seats r _ = None

-- none of these steps writes the word
abbrev pub LeaveAlone : ℕ → ℕ → List Step → Type 0
LeaveAlone seats w [] = Unit {0}
LeaveAlone seats w (x ∷ xs) = (written_word seats x ≢ Some w) × LeaveAlone seats w xs

-- whether the floor comes out by the step
abbrev pub takes_out : Step → Bool
takes_out (By i id FloorOut) = true
takes_out _ = false

-- the floor comes out by none of these steps
abbrev pub NoneTakesOut : List Step → Type 0
NoneTakesOut [] = Unit {0}
NoneTakesOut (x ∷ xs) = (takes_out x ≡ false) × NoneTakesOut xs

-- one of these steps, which lead from s to t, is seat j's and reads the word w, and none before it writes w. So it
-- reads what was there in s
pub record IsFoundBetween (k : Rules) (o : Object) (c : Setting) (w j : ℕ) (s : HallState) (xs : List Step)
    (t : HallState) : Type 0 where
  pub before : List Step
  pub id : ℕ
  pub look : Deed
  pub after : List Step
  pub are : xs ≡ before ++ By j id look ∷ after
  pub untouched : LeaveAlone c.seats w before
  pub at : HallState
  pub next : HallState
  pub leads : IsSchedule k o c s before at
  pub step : IsStep k o c at (By j id look) next
  pub goes_on : IsSchedule k o c next after t
  pub seat : SeatRecord
  pub recorded : IsRecord at seat
  pub is_its : seat.seat ≡ j
  pub reads : read_word c.seats seat look ≡ Some w
  pub value : slice_index at.words w ≡ slice_index s.words w

-- one of these steps is seat i's and writes a word; a later one is seat j's and reads that word; and none in between
-- writes it
pub record IsHandedOver (k : Rules) (o : Object) (c : Setting) (i j : ℕ) (s : HallState) (xs : List Step)
    (t : HallState) : Type 0 where
  pub before : List Step
  pub id : ℕ
  pub change : Deed
  pub after : List Step
  pub are : xs ≡ before ++ By i id change ∷ after
  pub word : ℕ
  pub writes : written_word c.seats (By i id change) ≡ Some word
  pub at : HallState
  pub next : HallState
  pub leads : IsSchedule k o c s before at
  pub step : IsStep k o c at (By i id change) next
  pub goes_on : IsSchedule k o c next after t
  pub found : IsFoundBetween k o c word j next after t

-- in every schedule, after seat i has taken the floor home and before it next comes out, to seat j, i writes a word,
-- and then j reads there what i wrote
abbrev pub FloorChangesHands : Type 0
FloorChangesHands =
    (k : Rules) (o : Object) (c : Setting) → IsKind k → make_refusal c.seats c.conds c.budget ≡ None
    → (first : List Step) (s : HallState) → IsSchedule k o c (opening_table c) first s
    → (i a : ℕ) (es : List Event) (t : HallState) → IsStep k o c s (By i a (FloorIn es)) t
    → (xs : List Step) (u : HallState) → IsSchedule k o c t xs u → NoneTakesOut xs
    → (j b : ℕ) (v : HallState) → IsStep k o c u (By j b FloorOut) v
    → IsHandedOver k o c i j t xs u

-- these steps write no word
abbrev pub OnlyRead : ℕ → List Step → Type 0
OnlyRead seats [] = Unit {0}
OnlyRead seats (x ∷ xs) = (written_word seats x ≡ None) × OnlyRead seats xs

-- so the floor is never handed over by steps that only read
abbrev pub NeverByReadsAlone : Type 0
NeverByReadsAlone =
    (k : Rules) (o : Object) (c : Setting) → IsKind k → make_refusal c.seats c.conds c.budget ≡ None
    → (first : List Step) (s : HallState) → IsSchedule k o c (opening_table c) first s
    → (i a : ℕ) (es : List Event) (t : HallState) → IsStep k o c s (By i a (FloorIn es)) t
    → (xs : List Step) (u : HallState) → IsSchedule k o c t xs u → NoneTakesOut xs → OnlyRead c.seats xs
    → (j b : ℕ) (v : HallState) → IsStep k o c u (By j b FloorOut) v → ⊥
