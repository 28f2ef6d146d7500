use Rattle.std.proofs.Common.{arith, sym, subst, ap, ◌∙◌, Some, ◌∷◌}
use Rattle.atomic_table.specs.Table.{rest}
use Rattle.monk_world.specs.Places.{stage}
use Rattle.monk_hall.proofs.steps.floor_in.Goals as goal
use Rattle.monk_hall.proofs.Reached.{gives_floor}
use Rattle.monk_hall.specs.{Records.IsOne, Records.the, Rule.setting_of, Tells.Returns}

pub load-requires : goal.load-requires
load-requires g c =
    let sized = c.requires.table.1.0 in
    let active = c.requires.active in
    let now = c.exchange-spare.ensures.3 in
    let same = ap (λ m. m.0) now in
    let holds = ap (λ m. m.1) now ∙ ap (λ z. (0, Some c.args.floor) ∷ rest z) active.1 in
    let key = c.args.words.now.table.shared.key in (
      c.exchange-spare.ensures.0 ∙ c.requires.table.0,
      omega arith,
      gives_floor g.K.Kind.rules g.T.Guarded.meaning
          (setting_of (g.T.Guarded.state key.opening.value) key.seats key.conds key.budget) g.K.Kind.is_kind _ _
          c.exchange-spare.new.seat.me c.args.floor (subst IsOne (sym same) active.0) holds
          (ap (λ v. stage (the v).place) same ∙ active.2)
          (subst (λ v. Returns g.K.Kind.rules g.T.Guarded.meaning (the v) c.args.floor) (sym same) c.requires.returns),
    )
