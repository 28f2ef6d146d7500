use Rattle.std.proofs.Common.{◌≡◌, ◌-◌, length, take}
use Rattle.monk_tell.proofs.standing.data_numbers.Given as goal

-- the numbers so far
abbrev pub invariant-loop-number : goal.invariant-loop-number
invariant-loop-number g l = l.data.items ≡ take (length l.data.items) (g.T.Guarded.state l.object)

abbrev pub decreases-loop-number : goal.decreases-loop-number
decreases-loop-number g l = length (g.T.Guarded.state l.object) - length l.data.items
