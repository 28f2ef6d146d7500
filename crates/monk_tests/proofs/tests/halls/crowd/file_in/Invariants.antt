use Rattle.std.proofs.Common.{All, ◌≡◌, deque_len}
use Rattle.monk_tests.proofs.tests.halls.crowd.file_in.Given as goal

abbrev pub invariant-loop-parked : goal.invariant-loop-parked
invariant-loop-parked l = All (λ p. p.hall ≡ l.hall.id) l.line.items

abbrev pub decreases-loop-parked : goal.decreases-loop-parked
decreases-loop-parked l = deque_len l.line
