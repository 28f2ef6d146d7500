-- How the rounds of a seat add up
use Rattle.std.proofs.Common.{◌≡◌, ℕ, zero, suc, ◌+◌, ◌<◌, ◌≤◌, Bool, true, false, nat_le}
use Rattle.std.proofs.Common.{List, [], ◌∷◌, ◌++◌}
use Rattle.std.proofs.Common.{append_assoc, refl, sym, ap, subst, ◌∙◌, arith}
use Rattle.std.proofs.lemmas.Bool.{leb-true, leb-false}
use Rattle.monk_kinds.specs.declared.mode.Rules.{Rules}
use Rattle.monk_object.specs.Object.{Object}
use Rattle.monk_hall.specs.{Tokens.House, Tokens.Token, declared.setting.Setting.Setting}
use Rattle.monk_samples.proofs.TrailLaws.{called_none, called_then}
use Rattle.monk_samples.specs.{Crews.IsOf, Rounds.HasDoneRounds, Rounds.HasWorked, Rounds.rounds_to, Trails.Addition}
use Rattle.monk_samples.specs.{Trails.HasCalled, Trails.outside, Visits.Plan, Visits.AreVisits, Visits.HasVisited}
use Rattle.monk_samples.specs.declared.end.End.{End, TheVariants.Done, TheVariants.Tired, TheVariants.Late}

-- a seat stays one of its hall
pub still_of : (h : House) (p q : Token) (calls : List Addition) → HasCalled (outside p) (outside q) calls
    → IsOf h p → IsOf h q
still_of h p q calls s of = (s.went.hall ∙ of.0, s.went.setting ∙ of.1)

module _ (k : Rules) (o : Object) where
  -- some visits, and then others
  visits_then : (c : Setting) (s : ℕ) (vs ws : List Plan) (xs ys : List Addition) → AreVisits k o c s Done vs xs
      → AreVisits k o c s Done ws ys → AreVisits k o c s Done (vs ++ ws) (xs ++ ys)
  visits_then c s [] ws xs ys h t = subst (λ ds. AreVisits k o c s Done ws (ds ++ ys)) (sym h) t
  visits_then c s (v ∷ vs) ws xs ys h t = record {
    first = h.first;
    rest = h.rest ++ ys;
    are = ap (λ ds. ds ++ ys) h.are ∙ append_assoc h.first h.rest ys;
    is_first = h.is_first;
    is_rest = visits_then c s vs ws h.rest ys h.is_rest t;
  }

  module _ (answers : ℕ → ℕ → Bool → Type 0) (plan : Setting → ℕ → ℕ → List Plan) where
    let_in_then : (s n : ℕ) → ((r : ℕ) → 1 ≤ r → r ≤ n → answers s r true) → answers s (suc n) true
        → (r : ℕ) → 1 ≤ r → r ≤ suc n → answers s r true
    let_in_then s n before now r some most = by (nat_le r n) refl
      where
        by : (b : Bool) → nat_le r n ≡ b → answers s r true
        by true e = before r some (leb-true r n e)
        by false e = let same : suc n ≡ r = omega (arith, leb-false r n e, most) in
            subst (λ x. answers s x true) same now

    -- a seat in some of its rounds
    abbrev Did : ℕ → Token → Token → Type 0
    Did n p m = HasDoneRounds k o (answers p.me.seat) (plan p.me.setting p.me.seat) n p m

    abbrev Came : ℕ → Token → Token → End → Type 0
    Came rounds p q end = HasWorked k o (answers p.me.seat) (plan p.me.setting p.me.seat) rounds p q end

    none_let_in : (s r : ℕ) → 1 ≤ r → r ≤ 0 → answers s r true
    none_let_in s zero some most = absurd (omega (arith, some))
    none_let_in s (suc r) some most = absurd (omega (arith, most))

    -- before its first round
    pub no_round : (p : Token) → Did 0 p p
    no_round p = record { calls = []; called = called_none (outside p); are = refl; let_in = none_let_in p.me.seat }

    one_round : (n : ℕ) (p m q : Token) → Did n p m → answers p.me.seat (suc n) true
        → HasVisited k o m (plan p.me.setting p.me.seat (suc n)) q Done → Did (suc n) p q
    one_round n p m q s now t = let seat = s.called.went.seat in let setting = s.called.went.setting in record {
      calls = s.calls ++ t.calls;
      called = called_then (outside p) (outside m) (outside q) s.calls t.calls s.called t.called;
      are = visits_then p.me.setting p.me.seat (rounds_to (plan p.me.setting p.me.seat) n)
          (plan p.me.setting p.me.seat (suc n))
          s.calls t.calls s.are (rw (seat, setting) at t.are);
      let_in = let_in_then p.me.seat n s.let_in now;
    }

    -- what the gate answered, for the seat that asked
    answered : (s r : ℕ) (b answer : Bool) (p : Token) → s ≡ p.me.seat → answers s r b → b ≡ answer
        → answers p.me.seat r answer
    answered s r b answer p is given e = subst (λ x. answers p.me.seat r x) e (subst (λ x. answers x r b) is given)

    -- the plan of the seat, which is still the same
    planned : (n : ℕ) (p m q : Token) (end : End) → Did n p m
        → HasVisited k o m (plan m.me.setting m.me.seat (n + 1)) q end
        → HasVisited k o m (plan p.me.setting p.me.seat (n + 1)) q end
    planned n p m q end s t = subst (λ c. HasVisited k o m (plan c p.me.seat (n + 1)) q end) s.called.went.setting
        (subst (λ x. HasVisited k o m (plan m.me.setting x (n + 1)) q end) s.called.went.seat t)

    -- the next round was done
    pub round_done : (n s : ℕ) (b : Bool) (p m q : Token) (end : End) → s ≡ p.me.seat → Did n p m
        → answers s (n + 1) b → b ≡ true
        → HasVisited k o m (plan m.me.setting m.me.seat (n + 1)) q end → end ≡ Done → Did (n + 1) p q
    round_done n s b p m q end is did given e t ends = let next : n + 1 ≡ suc n = omega arith in
        subst (λ x. Did x p q) (sym next) (one_round n p m q did
        (subst (λ x. answers p.me.seat x true) next (answered s (n + 1) b true p is given e))
        (subst (λ x. HasVisited k o m (plan p.me.setting p.me.seat x) q Done) next
        (subst (λ x. HasVisited k o m (plan p.me.setting p.me.seat (n + 1)) q x) ends (planned n p m q end did t))))

    -- or it was not
    pub round_short : (n s all rounds : ℕ) (b : Bool) (p m q : Token) (end : End) → s ≡ p.me.seat
        → all ≡ rounds → n < all → Did n p m
        → answers s (n + 1) b → b ≡ true → HasVisited k o m (plan m.me.setting m.me.seat (n + 1)) q end
        → (end ≡ Done → ⊥)
        → Came rounds p q end
    round_short n s all rounds b p m q Done is same fewer did given e t undone = absurd (undone refl)
    round_short n s all rounds b p m q Tired is same fewer did given e t undone = record {
      n = n;
      fewer = subst (λ x. n < x) same fewer;
      last = m;
      done = did;
      let_in = answered s (n + 1) b true p is given e;
      visited = planned n p m q Tired did t;
    }
    round_short n s all rounds b p m q Late is same fewer did given e t undone = absurd t.are

    pub sent_away : (n s all rounds : ℕ) (b : Bool) (p m : Token) → s ≡ p.me.seat → all ≡ rounds → n < all → Did n p m
        → answers s (n + 1) b → b ≡ false → Came rounds p m Late
    sent_away n s all rounds b p m is same fewer did given e = record {
      n = n;
      fewer = subst (λ x. n < x) same fewer;
      done = did;
      sent_away = answered s (n + 1) b false p is given e;
    }

    pub all_done : (n all rounds : ℕ) (p m : Token) → all ≡ rounds → n ≤ all → all ≤ n → Did n p m
        → Came rounds p m Done
    all_done n all rounds p m same most least did =
        let is : n ≡ all = omega (arith, most, least) in subst (λ x. Did x p m) (is ∙ same) did
