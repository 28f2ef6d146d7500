-- The last line of a log after one more line
use Rattle.std.proofs.Common.{◌≡◌, ℕ, suc, ◌+◌, ◌<◌, Bool, cond, List, [], ◌∷◌, ◌++◌, length, take, get_or}
use Rattle.std.proofs.Common.{Option, Some, None, refl, sym, ap, ◌∙◌, arith, length-take}
use Rattle.std.{specs.Option.option_or, proofs.lemmas.List.take_more, proofs.lemmas.Bool.Decides.nat_tests}
use Rattle.monk_logs.specs.declared.{subject.Subject.Subject, text.line.LogLine.LogLine}
use Rattle.monk_logs.specs.LastLine.{has, last_behind, last_line}

or_first : (b : Bool) (n : ℕ) (x y : Option ℕ) → option_or (cond b (Some n) x) y ≡ cond b (Some n) (option_or x y)
or_first b n x y = grind (arith, nat_tests)

last_append : (p : LogLine → Bool) (n : ℕ) (log : List LogLine) (l : LogLine)
    → last_behind p n (log ++ l ∷ []) ≡ cond (p l) (Some (suc (n + length log))) (last_behind p n log)
unfolding last_behind
last_append p n [] l = ap (λ k. cond (p l) (Some (suc k)) None) (omega arith)
last_append p n (x ∷ log) l =
    ap (λ o. option_or o (cond (p x) (Some (suc n)) None)) (last_append p (suc n) log l)
    ∙ or_first (p l) (suc (suc n + length log)) (last_behind p (suc n) log) (cond (p x) (Some (suc n)) None)
    ∙ ap (λ k. cond (p l) (Some (suc k)) (option_or (last_behind p (suc n) log) (cond (p x) (Some (suc n)) None)))
    (omega arith)

pub last_none : (it : Subject) → None ≡ last_line it []
unfolding last_behind
last_none it = refl

pub last_more : (it : Subject) (log : List LogLine) (i : ℕ) (l : LogLine) (before : Option ℕ) (is : Bool)
    → i < length log
    → has it (get_or log i l) ≡ is → before ≡ last_line it (take i log)
    → cond is (Some (i + 1)) before ≡ last_line it (take (i + 1) log)
last_more it log i l before is lt same so_far =
    ap (λ b. cond b (Some (i + 1)) before) (sym same)
    ∙ ap (cond (has it (get_or log i l)) (Some (i + 1))) so_far
    ∙ ap (λ k. cond (has it (get_or log i l)) (Some k) (last_line it (take i log)))
    (omega (arith, length-take i log, lt))
    ∙ sym (last_append (has it) 0 (take i log) (get_or log i l))
    ∙ ap (last_line it) (sym (take_more log i l lt))
