use Rattle.std.proofs.Common.{◌≡◌, ℕ, ◌<◌, None, length, get_or}
use Rattle.monk_judge.proofs.passed.Passed.begin_visit.Given as goal
use Rattle.monk_judge.specs.{Hints.woken_on, declared.place.Place.TheVariants.Outside}

abbrev pub invariant-loop-seat : goal.invariant-loop-seat
invariant-loop-seat l = record {
  size : length l.self.passing ≡ 256;
  past : (j : ℕ) → j < l.seat → get_or l.self.passing j None ≡ woken_on (get_or l.places j Outside);
  seats : l.self.seats ≡ l.initial.self.seats;
}
