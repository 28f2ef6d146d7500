use Rattle.std.proofs.Common.{◌≡◌, ℕ, ◌<◌, get_or}
use Rattle.monk_judge.specs.declared.place.Place.TheVariants.{Outside}
use Rattle.monk_judge.proofs.judge.Judge.has_at.Given as goal

abbrev pub invariant-loop-place : goal.invariant-loop-place
invariant-loop-place g l = (k : ℕ) → k < l.place-index → get_or l.self.places k Outside ≡ l.there → ⊥
