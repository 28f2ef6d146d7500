use Rattle.std.proofs.Common.{arith}
use Rattle.monk_hall.proofs.steps.peek.Goals as goal
use Rattle.monk_hall.{specs.Rule.setting_of, proofs.Reached.peeks}

pub load-requires : goal.load-requires
load-requires g c =
    let active = c.requires.active in
    let sized = c.requires.table.1.0 in
    let key = c.args.words.now.table.shared.key in (
      c.requires.table.0,
      omega arith,
      peeks g.K.Kind.rules g.T.Guarded.meaning
          (setting_of (g.T.Guarded.state key.opening.value) key.seats key.conds key.budget) g.K.Kind.is_kind _ _
          c.args.seat.now.me active.0 active.1,
    )
