-- What the steps of a wait and of a broadcast count
use Rattle.std.proofs.Common.{◌≡◌, ℕ, ◌+◌, Bool, true, false, [], ◌∷◌, None, nat_lt, refl, sym, ap, arith, ◌∙◌}
use Rattle.monk_logs.specs.declared.text.line.LogLine.TheVariants.{Broadcast, Wait}
use Rattle.monk_judge.specs.declared.told.Told.TheVariants as told
use Rattle.monk_judge.specs.{Judged.running_out, Run.Setting, Run.State, declared.step.Step.TheVariants.Tells}
use Rattle.monk_judge.specs.Counts.{Names, one, sleepers_on}

pub wait_names : (m : Setting) (x : State) (s c : ℕ) (b : Bool)
    → Names m x (Tells (Wait s c) None ∷ running_out s b) told.Plain
wait_names m x s c true = record { spurious = refl; served = refl; passed = refl; unheard = refl }
wait_names m x s c false = record { spurious = refl; served = refl; passed = refl; unheard = refl }

pub nobody_names : (m : Setting) (x : State) (s c n : ℕ) → n ≡ sleepers_on c m.seats x → n ≡ 0
    → Names m x (Tells (Broadcast s c) None ∷ []) told.Unheard
nobody_names m x s c n is none = record {
  spurious = refl;
  served = let a : sleepers_on c m.seats x ≡ 0 = sym is ∙ none in omega arith;
  passed = refl;
  unheard = ap (λ k. one (nat_lt k 1) + 0) (sym is ∙ none);
}

some_heard : (n : ℕ) → (n ≡ 0 → ⊥) → one (nat_lt n 1) + 0 ≡ 0
some_heard n h = grind arith

pub all_names : (m : Setting) (x : State) (s c n : ℕ) → n ≡ sleepers_on c m.seats x → (n ≡ 0 → ⊥)
    → Names m x (Tells (Broadcast s c) None ∷ []) (told.WokeAll n)
all_names m x s c n is some = record {
  spurious = refl;
  served = let a : sleepers_on c m.seats x ≡ n = sym is in omega arith;
  passed = refl;
  unheard = ap (λ k. one (nat_lt k 1) + 0) (sym is) ∙ some_heard n some;
}
