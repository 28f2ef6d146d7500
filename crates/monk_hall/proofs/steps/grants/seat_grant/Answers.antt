use Rattle.std.proofs.Common.{arith, ℕ, sym, subst}
use Rattle.std.proofs.lemmas.Grind.{common_steps}
use Rattle.atomic_table.specs.Table.{Allows}
use Rattle.monk_hall.proofs.steps.grants.seat_grant.Goals as goal
use Rattle.monk_hall.proofs.Reached.{calls_seat}
use Rattle.monk_hall.specs.{Rule.setting_of, Schedules.IsReached, Tells.TellsCall}

pub store-requires : goal.store-requires
store-requires g c =
    let back = c.requires.back in
    let sized = c.requires.table.1.0 in
    let key = c.args.words.now.table.shared.key in
    let low = c.requires.near in (
      c.requires.table.0,
      (let e = c.seat_word-place.ensures in omega arith),
      subst (λ (p : ℕ). Allows
          (IsReached g.K.Kind.rules g.T.Guarded.meaning
          (setting_of (g.T.Guarded.state key.opening.value) key.seats key.conds key.budget))
          c.args.words.now.table.shared.table_id.slots c.args.seat.now.id c.args.seat.now.me p (λ _. c.args.calls)
          (λ _. TellsCall c.args.seat.now.me c.args.calls)) (sym c.seat_word-place.ensures)
          (calls_seat g.K.Kind.rules g.T.Guarded.meaning
          (setting_of (g.T.Guarded.state key.opening.value) key.seats key.conds key.budget) g.K.Kind.is_kind _ _
          c.args.seat.now.me back.0 c.args.called c.args.calls back.1 back.2),
    )

pub returns-clause-step : goal.returns-clause-step
returns-clause-step g c = grind (arith, common_steps)
