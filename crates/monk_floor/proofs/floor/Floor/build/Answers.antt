use Rattle.std.proofs.Common.{sym, ap}
use Rattle.monk_history.specs.Meaning.Monitor.{monitor}
use Rattle.monk_floor.proofs.KeptLaws.{kept_none}
use Rattle.monk_floor.proofs.floor.Floor.build.Goals as goal

pub invariant_of-result : goal.invariant_of-result
invariant_of-result g c =
    let new = c.in_ok-ledger.ensures in
    kept_none (monitor g.K.Kind.rules c.args.seats c.args.conds g.T.Guarded.meaning
    (g.T.Guarded.state c.of-opening.result.value)) c.args.budget _ _ _ _ _ _ _ _ _
    c.in_ok-history.ensures.items c.in_ok-history.ensures.exact (ap g.T.Guarded.state (sym c.of-opening.ensures))
    c.requires.seats c.requires.budget
    new.conditions c.requires.conds new.waiters new.signallers new.untils new.turn new.inside new.spent new.inside_seats
    new.spent_seats new.granted new.entered new.granted_seats
