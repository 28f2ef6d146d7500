use Rattle.monk_audit.specs.Pieces.{owed_verdict, stages_left, AsksForNone, IsCarried, IsSound}
use Rattle.monk_audit.proofs.stage.Stage.judge.Given as goal

abbrev pub invariant-loop-next : goal.invariant-loop-next
invariant-loop-next l = record {
  carried : IsCarried (owed_verdict l.fn.self) l.fn.bytes (owed_verdict l.self) l.rest;
  sound : IsSound l.self;
  none : AsksForNone l.fn.self l.fn.bytes → AsksForNone l.self l.rest;
}

abbrev pub decreases-loop-next : goal.decreases-loop-next
decreases-loop-next l = stages_left l.self
