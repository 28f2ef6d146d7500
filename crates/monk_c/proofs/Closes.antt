-- Why a close through a handle is refused, or what it has done
use Rattle.std.specs.Prelude.{◌≡◌, ◌<◌, ℕ, ℤ, List, length, slice_get, slice_index_or, slice_set, Option, Some, None, IfSome}
use Rattle.std.proofs.Common.{sym, ap, subst, ◌∙◌, arith}
use Rattle.std.proofs.lemmas.{List.set-get_or, Bool.Decides.nat_tests}
use Rattle.std.proofs.lemmas.Option.{get_or_from_slice_get, slice_get-get_or}
use Rattle.monk_kinds.specs.declared.mode.Pick.TheVariants as pick
use Rattle.monk_c.specs.{Coming.HasCome, Refusal.refusal_at, Stands.Booked, Answers.refusal_number}
use Rattle.monk_c.specs.Handles.{AnswersAt, IfRefusedAt, booked}
use Rattle.monk_c.specs.declared.{any_seat.AnySeat.AnySeat, refusal.Refusal.Refusal, handle.MonkSeat.MonkSeat}
use Rattle.monk_c.specs.declared.call.Call.TheVariants.{Arrive, Poll}
use Rattle.monk_c.specs.Closing.{IfCloseRefused, IfClosed, IsInOrTaken, close_refusal, refusal_of_seats}

set_back : (handles : List MonkSeat) (i : ℕ) (h : MonkSeat) → slice_get handles i ≡ Some h
    → slice_set handles i h ≡ handles
set_back handles i h chosen =
    ap (λ (x : MonkSeat). slice_set handles i x) (sym (get_or_from_slice_get handles i h h chosen))
    ∙ set-get_or handles i h

also : (r : Option Refusal) (P Q : Type 0) (R : Refusal → Type 0) → (P → Q) → IfSome r (λ f. P × R f)
    → IfSome r (λ f. Q × R f)
also None P Q R more has = tt
also (Some f) P Q R more has = (more has.0, has.1)

is_in_or_taken : (s m t : Option Booked) (answer code : ℤ) → AnswersAt Arrive pick.Waiter s answer 0 m
    → AnswersAt Poll pick.Waiter m code 0 t → IsInOrTaken s m code
is_in_or_taken s m t answer code arrived polled = grind (arith, nat_tests)

-- through a handle of the list, if the seats refuse nothing; it is t then
module _ (old seen : List MonkSeat) (by : ℕ) (d t : MonkSeat) (code shown : ℤ) (kept : seen ≡ old)
    (low : by < length old)
    (fine : refusal_of_seats old ≡ None) (same : t ≡ record (slice_index_or seen by d) { has = t.has })
    (e : shown ≡ code) where
  abbrev h : MonkSeat
  h = slice_index_or seen by d

  chosen : slice_get old by ≡ Some h
  chosen = grind (arith, nat_tests, slice_get-get_or)

  arrival : close_refusal old by ≡ refusal_at (booked h.has) Arrive
  arrival = grind (arith, nat_tests, chosen)

  others : slice_set seen by t ≡ slice_set old by t
  others = ap (λ (xs : List MonkSeat). slice_set xs by t) kept

  pub is_closed : (refusal_at (booked h.has) Arrive ≡ None → HasCome h.has code t.has)
      → IfClosed old by shown (slice_set seen by t)
  is_closed comes none = record {
    handle = h;
    last = t.has;
    chosen = chosen;
    come = come;
    inside = is_in_or_taken (booked h.has) (booked come.between) (booked t.has)
        come.answer shown come.arrived come.polled;
    others = others ∙ ap (λ (x : MonkSeat). slice_set old by x) same;
  } where
    come : HasCome h.has shown t.has
    come = subst (λ (z : ℤ). HasCome h.has z t.has) (sym e) (comes (sym arrival ∙ none))

  unchanged : t.has ≡ h.has → slice_set seen by t ≡ old
  unchanged is =
      others ∙ ap (λ (x : MonkSeat). slice_set old by x) (same ∙ ap (λ (x : AnySeat). record h { has = x }) is)
      ∙ set_back old by h chosen

  pub is_refused : IfRefusedAt Arrive h.has code t.has → IfCloseRefused old by shown (slice_set seen by t)
  is_refused refused =
      subst (λ (r : Option Refusal). IfSome r (λ f. (slice_set seen by t ≡ old) × (shown ≡ refusal_number f)))
      (sym arrival)
      (also (refusal_at (booked h.has) Arrive) (t.has ≡ h.has) (slice_set seen by t ≡ old)
      (λ f. shown ≡ refusal_number f) unchanged
      (subst (λ (z : ℤ). IfRefusedAt Arrive h.has z t.has) (sym e) refused))
