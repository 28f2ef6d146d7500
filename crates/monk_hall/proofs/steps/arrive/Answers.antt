use Rattle.std.proofs.Common.{arith}
use Rattle.monk_hall.proofs.steps.arrive.Goals as goal
use Rattle.monk_hall.{specs.Rule.setting_of, proofs.Reached.arrives}

pub fetch_add-requires : goal.fetch_add-requires
fetch_add-requires g c =
    let idle = c.requires.idle in
    let sized = c.requires.table.1 in
    let key = c.args.words.now.table.shared.key in (
      c.requires.table.0,
      (let w = sized.0 in omega arith),
      arrives g.K.Kind.rules g.T.Guarded.meaning
          (setting_of (g.T.Guarded.state key.opening.value) key.seats key.conds key.budget) g.K.Kind.is_kind _ _
          c.args.seat.now.me idle.0 idle.1 idle.2,
    )
