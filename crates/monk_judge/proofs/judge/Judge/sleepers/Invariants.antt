use Rattle.std.proofs.Common.{◌≡◌, ℕ, ◌<◌, ◌≤◌, false, length, get_or}
use Rattle.monk_judge.proofs.judge.Judge.sleepers.Given as goal
use Rattle.monk_judge.specs.{Counts.is_asleep, declared.place.Place.TheVariants.Outside}

abbrev pub invariant-loop-seat : goal.invariant-loop-seat
invariant-loop-seat g l = record {
  size : length l.asleep ≡ 256;
  past : (s : ℕ) → s < l.seat → get_or l.asleep s false ≡ is_asleep (get_or l.self.places s Outside);
  left : (s : ℕ) → l.seat ≤ s → get_or l.asleep s false ≡ false;
}
