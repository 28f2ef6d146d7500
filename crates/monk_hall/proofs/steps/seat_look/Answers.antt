use Rattle.std.proofs.Common.{arith, ℕ, ◌≡◌, sym, ap, subst, ◌∙◌}
use Rattle.atomic_table.specs.Table.{Allows}
use Rattle.monk_hall.proofs.steps.seat_look.Goals as goal
use Rattle.monk_hall.proofs.Reached.{looks_for_call}
use Rattle.monk_hall.specs.{Layout.seat_word, Records.the, Rule.setting_of, Schedules.IsReached, Tells.TellsSeatLook}

pub load-requires : goal.load-requires
load-requires g c =
    let parked = c.requires.parked in
    let sized = c.requires.table.1.0 in
    let key = c.args.words.now.table.shared.key in
    let low = c.requires.near in
    let word : seat_word (the c.args.seat.now.me.0).seat ≡ c.seat_word-place.result =
    sym (c.seat_word-place.ensures ∙ ap seat_word parked.2) in (
      c.requires.table.0,
      (let e = c.seat_word-place.ensures in omega arith),
      subst (λ (p : ℕ). Allows
          (IsReached g.K.Kind.rules g.T.Guarded.meaning
          (setting_of (g.T.Guarded.state key.opening.value) key.seats key.conds key.budget))
          c.args.words.now.table.shared.table_id.slots c.args.seat.now.id c.args.seat.now.me p (λ n. n)
          (TellsSeatLook c.args.seat.now.me)) word
          (looks_for_call g.K.Kind.rules g.T.Guarded.meaning
          (setting_of (g.T.Guarded.state key.opening.value) key.seats key.conds key.budget) g.K.Kind.is_kind _ _
          c.args.seat.now.me parked.0 parked.1),
    )
