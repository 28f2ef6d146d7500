use Rattle.std.proofs.Common.{◌≡◌, ◌≤◌, take}
use Rattle.monk_history.specs.Meaning.Acts.{refused_steps}
use Rattle.monk_tell.specs.Told.{refused_of, told_steps}
use Rattle.monk_tell.proofs.refused.refused_acts.Given as goal

-- the refused acts of the events so far
abbrev pub invariant-loop-index : goal.invariant-loop-index
invariant-loop-index l =
    (refused_of l.refused ≡ told_steps (refused_steps (take l.index l.events))) × (l.refused.more ≤ l.index)
