use Rattle.std.proofs.Common.{◌≡◌, ◌+◌, map}
use Rattle.std.specs.List.{range_with_len}
use Rattle.monk_history.specs.Meaning.Named.{named_monitor}
use Rattle.monk_tell.specs.Steps.{IsAfter, step_after, step_of}
use Rattle.monk_tell.proofs.steps.steps_from.Given as goal

-- the steps so far
abbrev pub invariant-loop-index : goal.invariant-loop-index
invariant-loop-index g l =
    let h = l.history.header.now in
    let es = l.history.events.now in
    record {
      after : IsAfter h es (l.before + l.index) g.T.Guarded.PREDICATES l.replay (g.T.Guarded.state l.object);
      told : map step_of l.steps.items
          ≡ map (step_after (named_monitor h) es l.before) (range_with_len l.before (l.index + 1));
    }
