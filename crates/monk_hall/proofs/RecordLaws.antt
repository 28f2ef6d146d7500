-- What the rule says about the seat of one record
use Rattle.std.proofs.Common.{◌≡◌, ◌≢◌, ℕ, ◌+◌, ◌<◌, ◌≤◌, ◌⊎◌, ap, inl, inr, arith}
use Rattle.std.{specs.Prelude.slice_index, proofs.lemmas.Bool.Decides.nat_tests}
use Rattle.monk_kinds.specs.declared.mode.Rules.{Rules}
use Rattle.monk_object.specs.Object.{Object}
use Rattle.monk_history.specs.{Meaning.Counts.enters_of, declared.event.Next.Next}
use Rattle.monk_world.proofs.PublicLaws.{held}
use Rattle.monk_world.specs.{Right.With, declared.home.Home.Home, declared.place.Place.TheVariants.Back}
use Rattle.monk_world.specs.Places.{stage, outside_stage, due_stage, back_stage, passing_stage}
use Rattle.monk_hall.specs.{Laws.HallState, Laws.IsRecord, Layout.tickets, Layout.unpassed, Rule.IsHall}
use Rattle.monk_hall.specs.declared.{record.SeatRecord.SeatRecord, setting.Setting.Setting}

pub cases_le : (a b : ℕ) → (a ≤ b) ⊎ (b < a)
cases_le a b = grind (arith, nat_tests)

-- each seat that isn't outside has its record
pub recorded : (k : Rules) (o : Object) (c : Setting) (s : HallState) (h : IsHall k o c s) (j : ℕ)
    → stage (h.0 j).place ≢ outside_stage → IsRecord s (h.0 j)
recorded k o c s h j inside = elim (cases_le c.seats j) [
  | inl far ↦ absurd (inside (h.2.kept.sound.is_sound.outside j far))
  | inr near ↦ (let there = h.1.there j near in
      record { id = h.1.desk j; view = there.0; at = there.1; there = there.2 })
]

module _ (k : Rules) (o : Object) (c : Setting) (s : HallState) (h : IsHall k o c s) (r : SeatRecord)
    (x : IsRecord s r) where
  pub is : h.0 r.seat ≡ r
  is = (h.1.each x.id x.view x.at r x.there).0

  pub desk : h.1.desk r.seat ≡ x.id
  desk = (h.1.each x.id x.view x.at r x.there).1

  pub place : (h.0 r.seat).place ≡ r.place
  place = ap (λ (y : SeatRecord). y.place) is

  -- the right is with a seat that is at a place that has it
  pub with : due_stage ≤ stage r.place → stage r.place ≤ passing_stage → h.2.kept.sound.right ≡ With r.seat
  with low high = grind (arith, nat_tests, place, held)

  -- while it has taken the floor back, what it has seen is the history
  pub back : stage r.place ≡ back_stage → h.2.history ≡ r.seen
  back four = grind (arith, nat_tests, with, place, is, held)

  -- and the number of the next ticket is that of the enters there
  pub next_ticket : (next : Next) (to : Home) → r.place ≡ Back next to
      → tickets (slice_index s.words 0) + 1 ≡ unpassed (slice_index s.words 0) + enters_of r.seen
  next_ticket next to back_at = grind (arith, nat_tests, with, place, back)
