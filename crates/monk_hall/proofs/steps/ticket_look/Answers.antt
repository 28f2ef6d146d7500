use Rattle.std.proofs.Common.{arith, ℕ, ◌%◌, ◌<◌, ◌≡◌, sym, subst, ◌∙◌, mod-lt}
use Rattle.atomic_table.specs.Table.{Allows}
use Rattle.monk_world.specs.Places.{ticket}
use Rattle.monk_hall.proofs.steps.ticket_look.Goals as goal
use Rattle.monk_hall.proofs.Reached.{looks_for_ticket}
use Rattle.monk_hall.specs.{Layout.place_word, Records.the, Rule.setting_of, Schedules.IsReached, Tells.TellsTicketLook}

pub load-requires : goal.load-requires
load-requires g c =
    let waits = c.requires.waits in
    let sized = c.requires.table.1.0 in
    let key = c.args.words.now.table.shared.key in
    let seats : c.args.seats ≡ key.seats = c.requires.seats.0 in
    let some = c.requires.seats.1 in
    let low : c.args.number % c.args.seats < c.args.seats = mod-lt c.args.number some in
    let word : place_word (ticket (the c.args.seat.now.me.0).place % key.seats) ≡ c.ticket_word-place.result =
    sym (c.ticket_word-place.ensures ∙ (λ i. place_word (waits.2 i % seats i))) in (
      c.requires.table.0,
      (let e = c.ticket_word-place.ensures in omega arith),
      subst (λ (p : ℕ). Allows
          (IsReached g.K.Kind.rules g.T.Guarded.meaning
          (setting_of (g.T.Guarded.state key.opening.value) key.seats key.conds key.budget))
          c.args.words.now.table.shared.table_id.slots c.args.seat.now.id c.args.seat.now.me p (λ n. n)
          (TellsTicketLook c.args.seat.now.me)) word
          (looks_for_ticket g.K.Kind.rules g.T.Guarded.meaning
          (setting_of (g.T.Guarded.state key.opening.value) key.seats key.conds key.budget) g.K.Kind.is_kind _ _
          c.args.seat.now.me waits.0 waits.1),
    )
