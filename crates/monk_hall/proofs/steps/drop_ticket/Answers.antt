use Rattle.std.proofs.Common.{arith}
use Rattle.monk_hall.proofs.steps.drop_ticket.Goals as goal
use Rattle.monk_hall.{specs.Rule.setting_of, proofs.Reached.takes_off}

pub fetch_sub-requires : goal.fetch_sub-requires
fetch_sub-requires g c =
    let back = c.requires.back in
    let sized = c.requires.table.1.0 in
    let key = c.args.words.now.table.shared.key in (
      c.requires.table.0,
      omega arith,
      takes_off g.K.Kind.rules g.T.Guarded.meaning
          (setting_of (g.T.Guarded.state key.opening.value) key.seats key.conds key.budget) g.K.Kind.is_kind _ _
          c.args.seat.now.me back.0 _ back.1,
    )
