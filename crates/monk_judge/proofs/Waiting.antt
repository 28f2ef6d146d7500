-- Who waits on which condition, after one more line
use Rattle.std.proofs.Common.{◌≡◌, ℕ, ◌+◌, ◌*◌, ◌<◌, ◌==◌, ◌&&◌, ◌||◌, ◌⊎◌, inl, inr, Bool, true, false, List, [], length, get_or, set, take, replicate, sym, ap, arith, ◌∙◌}
use Rattle.std.proofs.lemmas.Bool.Decides.{nat_tests}
use Rattle.std.proofs.lemmas.List.{get_or-replicate, get_or-set_other, get_or-set_same, Folds.list_any_more}
use Rattle.monk_logs.specs.declared.text.line.LogLine.{LogLine, TheVariants.Enter, TheVariants.Wait}
use Rattle.monk_judge.specs.{Hints.AreWaiters, Hints.waits_by, Overtaken.is_wait_of, Overtaken.waits_in}

-- at first nobody waits
pub waiters_opening : AreWaiters [] (replicate 65536 false)
waiters_opening s c low few = get_or-replicate 65536 (256 * s + c) false false (omega arith)

pub no_wait : (l : LogLine) (s c : ℕ) → ((t d : ℕ) → l ≡ Wait t d → ⊥) → is_wait_of s c l ≡ false
no_wait l s c h = grind (arith, nat_tests)

-- the line is no wait
pub waiters_same : (log : List LogLine) (table : List Bool) (i : ℕ) → i < length log
    → ((s c : ℕ) → is_wait_of s c (get_or log i (Enter 0)) ≡ false) → AreWaiters (take i log) table
    → AreWaiters (take (i + 1) log) table
waiters_same log table i lt other was s c low few =
    was s c low few
    ∙ sym (list_any_more (is_wait_of s c) log i (Enter 0) lt ∙ or_false (waits_in (take i log) s c) _ (other s c))
  where
    or_false : (a b : Bool) → b ≡ false → (a || b) ≡ a
    or_false a b h = grind arith

-- the line is a wait of that seat on that condition
pub waiters_more : (log : List LogLine) (table : List Bool) (i s c : ℕ) → i < length log
    → get_or log i (Enter 0) ≡ Wait s c → s < 256 → c < 256 → length table ≡ 65536 → AreWaiters (take i log) table
    → AreWaiters (take (i + 1) log) (set table (256 * s + c) true)
waiters_more log table i s c lt is low few size was t e lower fewer =
    let more = list_any_more (is_wait_of t e) log i (Enter 0) lt
    ∙ ap (λ l. waits_in (take i log) t e || is_wait_of t e l) is in
    elim (both s c t e) as (λ z. waits_by (set table (256 * s + c) true) t e ≡ waits_in (take (i + 1) log) t e) [
      | inl same ↦ grind (arith, nat_tests, get_or-set_same)
      | inr other ↦ grind (arith, nat_tests, get_or-set_other)
    ]
  where
    both : (s c t e : ℕ) → ((s ≡ t) × (c ≡ e)) ⊎ (s ≡ t → c ≡ e → ⊥)
    both s c t e = grind arith

    now : (was : Bool) (s c t e : ℕ) → s ≡ t → c ≡ e → (was || (s == t && c == e)) ≡ true
    now was s c t e a b = grind arith

    never : (was : Bool) (s c t e : ℕ) → (s ≡ t → c ≡ e → ⊥) → (was || (s == t && c == e)) ≡ was
    never was s c t e h = grind arith
