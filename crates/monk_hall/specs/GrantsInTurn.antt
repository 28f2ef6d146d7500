-- A word is granted again only after the grant that is there was taken
use Rattle.std.specs.Prelude.{◌≡◌, ℕ, true, List, [], ◌∷◌, ◌++◌, Option, Some, None}
use Rattle.monk_kinds.specs.{Kind.IsKind, declared.mode.Rules.Rules}
use Rattle.monk_object.specs.Object.{Object}
use Rattle.monk_floor.specs.Making.{make_refusal}
use Rattle.monk_hall.specs.{Deeds.look_at, Laws.HallState, Laws.IsRecord, NextTicket.IsLooking}
use Rattle.monk_hall.specs.Schedules.{Step, By, IsStep, IsSchedule, opening_table}
use Rattle.monk_hall.specs.Layout.{seat_word, ticket_word, waiting_word}
use Rattle.monk_hall.specs.declared.{record.SeatRecord.SeatRecord, setting.Setting.Setting}
use Rattle.monk_hall.specs.declared.deed.Deed.{Deed, TheVariants.GrantTicket, TheVariants.CallSeat}

-- the word in which a step stores a grant, in a hall of `seats` seats
abbrev pub granted_word : ℕ → Step → Option ℕ
granted_word seats (By i id (GrantTicket n)) = Some (ticket_word seats n)
granted_word seats (By i id (CallSeat m)) = Some (seat_word m)
granted_word seats _ = None

-- by this step a seat that waits at the word w finds its grant there
pub record IsTaken (s : HallState) (w : ℕ) (x : Step) : Type 0 where
  pub seat : SeatRecord
  pub recorded : IsRecord s seat
  pub looking : IsLooking seat.place
  pub waits : waiting_word seat ≡ w
  pub id : ℕ
  pub deed : Deed
  pub finds : look_at seat.place true ≡ deed ∷ []
  pub is : x ≡ By seat.seat id deed

-- one of these steps, which lead from s to t, is such a look
pub record IsTakenBetween (k : Rules) (o : Object) (c : Setting) (w : ℕ) (s : HallState) (xs : List Step)
    (t : HallState) : Type 0 where
  pub before : List Step
  pub look : Step
  pub after : List Step
  pub are : xs ≡ before ++ look ∷ after
  pub at : HallState
  pub next : HallState
  pub leads : IsSchedule k o c s before at
  pub step : IsStep k o c at look next
  pub goes_on : IsSchedule k o c next after t
  pub taken : IsTaken at w look

-- in every schedule, after a step that grants w and before the next step that grants it, the grant is taken
abbrev pub GrantsComeInTurn : Type 0
GrantsComeInTurn =
    (k : Rules) (o : Object) (c : Setting) → IsKind k → make_refusal c.seats c.conds c.budget ≡ None
    → (first : List Step) (s : HallState) → IsSchedule k o c (opening_table c) first s
    → (w : ℕ) (x : Step) (t : HallState) → IsStep k o c s x t → granted_word c.seats x ≡ Some w
    → (xs : List Step) (u : HallState) → IsSchedule k o c t xs u
    → (y : Step) (v : HallState) → IsStep k o c u y v → granted_word c.seats y ≡ Some w
    → IsTakenBetween k o c w t xs u
