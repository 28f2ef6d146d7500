use Rattle.std.proofs.Common.{arith, ℕ, sym, subst, ap, ◌∙◌, Some, ◌∷◌}
use Rattle.atomic_table.specs.Table.{rest, Allows}
use Rattle.monk_hall.proofs.steps.floor_out.Goals as goal
use Rattle.monk_hall.proofs.Reached.{takes_floor}
use Rattle.monk_hall.specs.{Rule.setting_of, Schedules.IsReached, Tells.TellsFloorOut}

pub load-requires : goal.load-requires
load-requires g c =
    let sized = c.requires.table.1.0 in
    let due = c.requires.due in
    let key = c.args.words.now.table.shared.key in (
      c.requires.table.0,
      omega arith,
      subst (λ (z : ℕ). Allows
          (IsReached g.K.Kind.rules g.T.Guarded.meaning
          (setting_of (g.T.Guarded.state key.opening.value) key.seats key.conds key.budget)) z c.args.seat.now.id
          c.args.seat.now.me 0 (λ n. n) (TellsFloorOut g.K.Kind.rules g.T.Guarded.meaning c.args.seat.now.me))
          (sym c.requires.table.1.1)
          (takes_floor g.K.Kind.rules g.T.Guarded.meaning
          (setting_of (g.T.Guarded.state key.opening.value) key.seats key.conds key.budget) g.K.Kind.is_kind _
          c.args.seat.now.me due.0 due.1 due.2),
    )

pub exchange-requires : goal.exchange-requires
exchange-requires g c =
    let told = c.load.ensures.2 in
    let has = ap (λ m. m.1) told.1 in
    (c.load.ensures.0 ∙ c.requires.table.0, (Some told.0, has ∙ (λ i. (0, Some told.0) ∷ sym (ap rest has) i)))
