use Rattle.std.proofs.Common.{All, ◌≡◌, deque_len}
use Rattle.monk_hall.specs.Tokens.{AreOf}
use Rattle.monk_tests.proofs.tests.halls.crowd.line_up.Given as goal

abbrev pub invariant-loop-pass : goal.invariant-loop-pass
invariant-loop-pass l = AreOf l.hall.id l.hall.setting l.outside.items × All (λ p. p.hall ≡ l.hall.id) l.line.items

abbrev pub decreases-loop-pass : goal.decreases-loop-pass
decreases-loop-pass l = deque_len l.outside
