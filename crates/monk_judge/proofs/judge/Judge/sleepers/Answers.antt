use Rattle.std.proofs.Common.{◌≡◌, ℕ, zero, suc, false, get_or, replicate, refl, arith}
use Rattle.monk_judge.proofs.judge.Judge.sleepers.Goals as goal

nobody_asleep : (n s : ℕ) → get_or (replicate n false) s false ≡ false
nobody_asleep zero s = refl
nobody_asleep (suc n) zero = refl
nobody_asleep (suc n) (suc s) = nobody_asleep n s

pub loop-seat-init : goal.loop-seat-init
loop-seat-init g c = record {
  size = refl;
  past = λ s lt. absurd (omega arith);
  left = λ s le. nobody_asleep 256 s;
}
