use Rattle.std.proofs.Common.{All, ◌≡◌, ◌≤◌, ◌+◌, length, take}
use Rattle.monk_history.specs.Meaning.Counts.{events_of}
use Rattle.monk_hall.proofs.CompleteLaws.{KnowsItsOwn, made_by}
use Rattle.monk_hall.proofs.completeness.complete.Given as goal

abbrev pub invariant-loop-pass : goal.invariant-loop-pass
invariant-loop-pass g l = (l.known ≡ length (events_of l.history l.seat) + made_by (take l.pass-index l.passes))
    × All KnowsItsOwn (take l.pass-index l.passes) × (l.pass-index ≤ length l.passes)
