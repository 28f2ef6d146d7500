use Rattle.std.proofs.Common.{◌≡◌, ℕ, ◌<◌, Bool, true, ◌&&◌, Some, ◌∷◌, refl, sym, ap}
use Rattle.std.proofs.Common.{subst, ◌∙◌, arith}
use Rattle.std.proofs.lemmas.{Bool.Decides.nat_tests, Grind.common_steps}
use Rattle.std.specs.{Prelude.nat_lt, List.list_all}
use Rattle.monk_kinds.specs.declared.mode.Rules.{Rules}
use Rattle.monk_object.specs.Object.{Object}
use Rattle.atomic_table.specs.Seated.{TableId}
use Rattle.monk_history.specs.declared.event.Next.TheVariants as next
use Rattle.monk_history.specs.Meaning.{Counts.granted_of, Reasons.is_in_range, Events.named_seat, Events.next_of}
use Rattle.monk_history.specs.declared.event.{Event.Event, Next.Next}
use Rattle.monk_world.specs.declared.{home.Home.Home, place.Place.TheVariants.Back}
use Rattle.monk_world.specs.Places.{back_turn, due_to}
use Rattle.monk_floor.specs.View.{FloorView}
use Rattle.monk_hall.proofs.handing.go_home.Goals as goal
use Rattle.monk_hall.proofs.HandingLaws.{chosen_due, chosen_entry, grants_by}
use Rattle.monk_hall.specs.{Changes.home_at, Layout.word_count, Records.IsOne, Records.the, Tells.Me}
use Rattle.monk_hall.specs.Handing.{seat_called_by, HasRecordedRelease}

-- ---- the seat that a release chose is one of the hall's

first_true : (a b c d : Bool) → (a && b && c && d) ≡ true → a ≡ true
first_true a b c d h = grind arith

named_near : (seats i : ℕ) (x : Next) (j : ℕ) → list_all (λ s. nat_lt s seats) (i ∷ named_seat (Some x)) ≡ true
    → seat_called_by x ≡ Some j → j < seats
named_near seats i x j h e = grind arith

chosen_in : (seats conds codes predicates : ℕ) (e : Event) (x : Next) (j : ℕ) → next_of e ≡ Some x
    → is_in_range seats conds codes predicates e ≡ true → seat_called_by x ≡ Some j → j < seats
chosen_in seats conds codes predicates e x j is h called = grind (arith, nat_tests)

module _ {k : Rules} {o : Object} {z : TableId} {me : Me} {choice : Next} {to : Home} {f : FloorView} where
  chosen_before : (x : HasRecordedRelease k o z me choice to f) → (j : ℕ) → seat_called_by choice ≡ Some j
      → j < x.returns.before.seats
  chosen_before x j e = grind (arith, nat_tests)

  chosen_floor : HasRecordedRelease k o z me choice to f → (j : ℕ) → seat_called_by choice ≡ Some j → j < f.seats
  chosen_floor x j e = grind (arith, nat_tests)

  chosen_hall : HasRecordedRelease k o z me choice to f → (j : ℕ) → seat_called_by choice ≡ Some j → (seats : ℕ)
      → z.words ≡ word_count seats → j < seats
  chosen_hall x j e seats sized = grind (arith, nat_tests)

pub granted-calls-requires : goal.granted-calls-requires
granted-calls-requires g c = grind (arith, common_steps)

pub seat_grant-requires-clause-near : goal.seat_grant-requires-clause-near
seat_grant-requires-clause-near g c κs within = grind (arith, common_steps)

pub seat_grant-requires-clause-back : goal.seat_grant-requires-clause-back
seat_grant-requires-clause-back g c κs within =
    let j = c.in-Some.called in
    subst (λ (m : Me). IsOne m.0 × (back_turn (the m.0).place ≡ due_to j)
    × (c.granted-calls.result ≡ granted_of (the m.0).seen j)) (sym c.floor_in.ensures.step) (
      refl,
      chosen_due c.requires.released.1 j (sym c.seat_called_by.ensures ∙ c.in-Some.is),
      c.granted-calls.ensures ∙ ap (λ (f : FloorView). granted_of f.history j) c.deref.ensures,
    )

pub let_in-requires-clause-back : goal.let_in-requires-clause-back
let_in-requires-clause-back g c κs within =
    subst (λ (m : Me). IsOne m.0 × ((the m.0).place ≡ Back next.Entry (home_at (the m.0).place)))
    (sym c.floor_in-in-None.ensures.step)
    (refl, chosen_entry c.requires.released.1 (sym c.seat_called_by.ensures ∙ c.in-None.is))

pub returns-in-Some-clause-granted : goal.returns-in-Some-clause-granted
returns-in-Some-clause-granted g c = grind (arith, common_steps, grants_by)
