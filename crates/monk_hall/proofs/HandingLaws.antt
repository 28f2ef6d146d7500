-- A release goes home with the floor, and the right is handed on
use Rattle.std.proofs.Common.{◌≡◌, ℕ, ◌+◌, ◌-◌, ◌≤◌, false}
use Rattle.std.proofs.Common.{List, [], ◌∷◌, ◌++◌, length, Option, Some, None, refl, sym, ap, subst, ◌∙◌}
use Rattle.std.{proofs.Common.arith, proofs.lemmas.Bool.Decides.nat_tests, specs.List.last_or}
use Rattle.atomic_table.specs.Seated.{TableId}
use Rattle.monk_kinds.specs.declared.mode.Rules.{Rules}
use Rattle.monk_object.specs.Object.{Object}
use Rattle.monk_history.specs.declared.event.Next.TheVariants as next
use Rattle.monk_history.proofs.PublicLaws.Meaning.{legal-push}
use Rattle.monk_history.specs.{Meaning.Counts.events_of, Meaning.Counts.left_of, Meaning.Events.is_stay}
use Rattle.monk_history.specs.{Meaning.Legal.IsLegal, Meaning.Release.with_next, declared.event.Next.Next}
use Rattle.monk_floor.specs.View.{FloorView, monitor_of}
use Rattle.monk_world.specs.{Places.back_turn, Places.turn_of_next, Places.due_to, Places.place_of, Sound.left_within}
use Rattle.monk_world.specs.{State.with_event, declared.home.Home.Home, declared.place.Place.TheVariants.Back}
use Rattle.monk_hall.proofs.{Releasing.back_is, Releasing.said, EntrySteps.own_longer}
use Rattle.monk_hall.specs.{Changes.record_after_floor_in, Changes.home_at, Granting.grant_of, Granting.granted_last}
use Rattle.monk_hall.specs.{Layout.floor_of, Records.the, Tells.Me, Tokens.IsSeated, Tokens.IsResting}
use Rattle.monk_hall.specs.declared.{deed.Deed.Deed, seat_numbers.SeatNumbers.SeatNumbers}
use Rattle.monk_hall.specs.Handing.{seat_called_by, HasRecordedRelease, HasGone}

last_is : {A : Type 0} (o : Option A) (h : List A) (e : A) → last_or o (h ++ e ∷ []) ≡ Some e
last_is o [] e = refl
last_is o (d ∷ ds) e = last_is (Some d) ds e

called_due : (x : Next) (j : ℕ) → seat_called_by x ≡ Some j → turn_of_next x ≡ due_to j
called_due x j e = grind (arith, nat_tests)

entry_is : (x : Next) → is_stay (Some x) ≡ false → seat_called_by x ≡ None → x ≡ next.Entry
entry_is x s e = grind (arith, nat_tests)

module _ {k : Rules} {o : Object} {z : TableId} {me : Me} {choice : Next} {to : Home} {f : FloorView} where
  -- the place of a seat that has taken the floor home
  pub back_place : HasRecordedRelease k o z me choice to f
      → (record_after_floor_in (the me.0) f.history).place ≡ Back choice to
  back_place x = grind (arith, nat_tests, last_is, back_is)

  pub chosen_due : HasRecordedRelease k o z me choice to f → (j : ℕ) → seat_called_by choice ≡ Some j
      → back_turn (record_after_floor_in (the me.0) f.history).place ≡ due_to j
  chosen_due x j e = ap back_turn (back_place x) ∙ called_due choice j e

  pub chosen_entry : HasRecordedRelease k o z me choice to f → seat_called_by choice ≡ None
      → (record_after_floor_in (the me.0) f.history).place ≡ Back next.Entry
      (home_at (record_after_floor_in (the me.0) f.history).place)
  chosen_entry x e = grind (arith, nat_tests, back_place, entry_is)

  pub home_is : HasRecordedRelease k o z me choice to f
      → home_at (record_after_floor_in (the me.0) f.history).place ≡ to
  home_is x = ap home_at (back_place x)

  -- what the seat knows then
  pub gone_rests : (x : HasRecordedRelease k o z me choice to f) → {numbers : SeatNumbers} {left : ℕ}
      → IsSeated z (the me.0) numbers → left ≡ left_of f.budget f.history numbers.seat
      → (y : TableId) (new : Me) → y ≡ z → HasGone (the me.0) f.history choice to (the new.0)
      → new ≡ (the new.0 ∷ [], [])
      → IsResting k o y new numbers left × ((the new.0).place ≡ place_of to) × (left_within to ≤ left)
  gone_rests x {numbers} {left} s rest y new same gone is =
      let r = the me.0 in let ret = x.returns in let e = with_next ret.choice ret.call in let w =
      record (record_after_floor_in r f.history) {
        place = place_of to;
        did = (record_after_floor_in r f.history).did ++ gone.handed;
      } in
      let seat = (said r.seat ret.to ret.call ret.choice ret.release).seat in
      let history = ap (λ (g : FloorView). g.history) ret.grows in
      let is_floor = ret.grows ∙ ap (λ g. with_event g e) ret.goes_on.is_floor in
      let h = f.history in let mine = events_of h r.seat in
      let more = ap (λ g. length (events_of g r.seat)) history ∙ own_longer ret.before.history e r.seat seat in
      let low = ret.left in let budget_then = ap (λ (g : FloorView). g.budget) ret.goes_on.is_floor in
      let budget_now = ap (λ (g : FloorView). g.budget) is_floor in
      let left_is : left ≡ f.budget - length mine = grind (arith, nat_tests) in
      let to_is = ap left_within x.is_to in
      let rests : IsResting k o z (w ∷ [], []) numbers left = record {
        one = refl;
        free = refl;
        seated =
            record { is_seat = s.is_seat; near = s.near; sized = s.sized; counted = s.counted; budgeted = s.budgeted };
        spent = omega arith;
        told = record {
          legal = subst (λ (g : FloorView). IsLegal (monitor_of k o g) g.history)
              (ret.grows ∙ ap (λ g. with_event g e) ret.goes_on.is_floor ∙ ap (λ g. floor_of r.setting g) (sym history))
              (subst (λ (g : FloorView). IsLegal (monitor_of k o g) g.history) (sym ret.grows)
              (legal-push (monitor_of k o ret.before) ret.before.history e ret.goes_on.legal x.allowed));
          own = refl;
        };
      } in (
        subst (λ a. IsResting k o a new numbers left) (sym same)
            (subst (λ m. IsResting k o z m numbers left) (sym (is ∙ ap (λ v. (v ∷ [], [])) gone.is)) rests),
        ap (λ v. v.place) gone.is,
        omega arith,
      )

-- what the last deed stored
pub grants_by : (z : TableId) (seats : ℕ) (ds : List Deed) (d : Deed) → granted_last z seats (ds ++ d ∷ [])
    ≡ grant_of z seats (Some d)
grants_by z seats ds d = ap (grant_of z seats) (last_is None ds d)
