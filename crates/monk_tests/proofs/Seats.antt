-- The passes of a hall are its seats
use Rattle.std.proofs.Common.{◌≡◌, ℕ, zero, suc, refl, List, [], ◌∷◌, ◌++◌, Some}
use Rattle.std.proofs.lemmas.List.Elements.{All-nil, All-cons, All-pop}
use Rattle.atomic_table.specs.Seated.{TableId}
use Rattle.monk_hall.specs.Records.{opening_records}
use Rattle.monk_hall.specs.Tokens.{Token, AreOf, tokens}
use Rattle.monk_hall.specs.declared.setting.Setting.{Setting}
use Rattle.monk_tests.specs.Passes.{IsSeat, AreSeats}

pub tokens_are_seats : (z : TableId) (c : Setting) (n i : ℕ) → c.conds ≡ 3
    → AreSeats z (tokens z (opening_records c n i))
tokens_are_seats z c zero i e = All-nil (IsSeat z)
tokens_are_seats z c (suc n) i e = All-cons (IsSeat z) _ _ (refl, e) (tokens_are_seats z c n (suc i) e)

pub last_is_seat : (z : TableId) (ps : List Token) (p : Token) → AreSeats z (ps ++ p ∷ []) → IsSeat z p × AreSeats z ps
last_is_seat z ps p h = let back = All-pop (IsSeat z) (ps ++ p ∷ []) ps (Some p) refl h in (back.1, back.0)

pub tokens_are_of : (z : TableId) (c : Setting) (n i : ℕ) → AreOf z c (tokens z (opening_records c n i))
tokens_are_of z c zero i = tt
tokens_are_of z c (suc n) i = (refl, refl, tokens_are_of z c n (suc i))

pub last_is_of : (z : TableId) (c : Setting) (ps : List Token) (p : Token) → AreOf z c (ps ++ p ∷ [])
    → ((p.hall ≡ z) × (p.me.setting ≡ c)) × AreOf z c ps
last_is_of z c [] p h = ((h.0, h.1), tt)
last_is_of z c (q ∷ ps) p h = let rest = last_is_of z c ps p h.2 in (rest.0, (h.0, h.1, rest.1))
