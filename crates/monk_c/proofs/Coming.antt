-- A seat that has arrived may poll
use Rattle.std.specs.Prelude.{◌≡◌, ℤ, None}
use Rattle.std.proofs.Common.{refl, sym, ap, ◌∙◌, subst, arith}
use Rattle.monk_kinds.specs.declared.name.KindName.TheVariants as kind
use Rattle.monk_kinds.specs.{Names.rules_named, declared.name.KindName.KindName}
use Rattle.monk_c.specs.{Handles.booked, Handles.seat_named, Refusal.refusal_at, Refusal.refusal_of, Stands.SeatView}
use Rattle.monk_c.specs.Coming.{Comes, HasCome, IfComes, IfComesAt}
use Rattle.monk_c.specs.declared.any_seat.AnySeat.{AnySeat}
use Rattle.monk_c.specs.declared.any_seat.AnySeat.TheVariants.{Pb, Npb, Pnb, Npnb, Pqb, Npqb, Pir, Npir, Pis, Npis}
use Rattle.monk_c.specs.declared.call.Call.TheVariants.{Arrive}
use Rattle.std.proofs.lemmas.Bool.Decides.{nat_tests}

-- what a seat of a kind has done, its handle has done
has_come : (n : KindName) (s t : SeatView) (code : ℤ) → Comes (rules_named n) s code t
    → HasCome (seat_named n s) code (seat_named n t)
has_come kind.Pb s t code x = record {
  between = Pb x.between;
  answer = x.answer;
  arrived = (refl, x.arrived);
  polled = (refl, x.polled);
}
has_come kind.Npb s t code x = record {
  between = Npb x.between;
  answer = x.answer;
  arrived = (refl, x.arrived);
  polled = (refl, x.polled);
}
has_come kind.Pnb s t code x = record {
  between = Pnb x.between;
  answer = x.answer;
  arrived = (refl, x.arrived);
  polled = (refl, x.polled);
}
has_come kind.Npnb s t code x = record {
  between = Npnb x.between;
  answer = x.answer;
  arrived = (refl, x.arrived);
  polled = (refl, x.polled);
}
has_come kind.Pqb s t code x = record {
  between = Pqb x.between;
  answer = x.answer;
  arrived = (refl, x.arrived);
  polled = (refl, x.polled);
}
has_come kind.Npqb s t code x = record {
  between = Npqb x.between;
  answer = x.answer;
  arrived = (refl, x.arrived);
  polled = (refl, x.polled);
}
has_come kind.Pir s t code x = record {
  between = Pir x.between;
  answer = x.answer;
  arrived = (refl, x.arrived);
  polled = (refl, x.polled);
}
has_come kind.Npir s t code x = record {
  between = Npir x.between;
  answer = x.answer;
  arrived = (refl, x.arrived);
  polled = (refl, x.polled);
}
has_come kind.Pis s t code x = record {
  between = Pis x.between;
  answer = x.answer;
  arrived = (refl, x.arrived);
  polled = (refl, x.polled);
}
has_come kind.Npis s t code x = record {
  between = Npis x.between;
  answer = x.answer;
  arrived = (refl, x.arrived);
  polled = (refl, x.polled);
}

unrefused : (n : KindName) (s : SeatView) → refusal_at (booked (seat_named n s)) Arrive ≡ None
    → refusal_of (rules_named n).mode s Arrive ≡ None
unrefused n s none = grind (arith, nat_tests)

pub comes_at : (n : KindName) (h : AnySeat) (s t : SeatView) (code shown : ℤ) → h ≡ seat_named n s → shown ≡ code
    → IfComes (rules_named n) s code t
    → IfComesAt h shown (seat_named n t)
comes_at n h s t code shown is same come none =
    subst (λ (x : AnySeat). HasCome x shown (seat_named n t)) (sym is)
    (subst (λ (z : ℤ). HasCome (seat_named n s) z (seat_named n t)) (sym same)
    (has_come n s t code (come (unrefused n s (sym (ap (λ (x : AnySeat). refusal_at (booked x) Arrive) is) ∙ none)))))
