use Rattle.std.proofs.Common.{arith, ℕ, ◌+◌, ◌%◌, ◌<◌, ◌≡◌, sym, subst, ◌∙◌, mod-lt}
use Rattle.std.proofs.lemmas.Grind.{common_steps}
use Rattle.atomic_table.specs.Table.{Allows}
use Rattle.monk_world.specs.Places.{ticket}
use Rattle.monk_hall.proofs.steps.grants.ticket_grant.Goals as goal
use Rattle.monk_hall.{proofs.Reached.grants_ticket, specs.Layout.place_word, specs.Records.the, specs.Rule.setting_of}
use Rattle.monk_hall.{specs.Schedules.IsReached, specs.Tells.TellsTicketGrant}

pub store-requires : goal.store-requires
store-requires g c =
    let passing = c.requires.passing in
    let sized = c.requires.table.1.0 in
    let key = c.args.words.now.table.shared.key in
    let seats : c.args.seats ≡ key.seats = c.requires.seats.0 in
    let some = c.requires.seats.1 in
    let low : c.args.number % c.args.seats < c.args.seats = mod-lt c.args.number some in
    let next : ticket (the c.args.seat.now.me.0).place + 1 ≡ c.args.number + 1 = grind (arith, common_steps) in
    let word : place_word (ticket (the c.args.seat.now.me.0).place % key.seats) ≡ c.ticket_word-place.result =
    sym (c.ticket_word-place.ensures ∙ (λ i. place_word (passing.2 i % seats i))) in (
      c.requires.table.0,
      (let e = c.ticket_word-place.ensures in omega arith),
      subst (λ (n : ℕ). Allows
          (IsReached g.K.Kind.rules g.T.Guarded.meaning
          (setting_of (g.T.Guarded.state key.opening.value) key.seats key.conds key.budget))
          c.args.words.now.table.shared.table_id.slots c.args.seat.now.id c.args.seat.now.me
          c.ticket_word-place.result (λ _. n)
          (λ _. TellsTicketGrant c.args.seat.now.me n)) next
          (subst (λ (p : ℕ). Allows
          (IsReached g.K.Kind.rules g.T.Guarded.meaning
          (setting_of (g.T.Guarded.state key.opening.value) key.seats key.conds key.budget))
          c.args.words.now.table.shared.table_id.slots c.args.seat.now.id c.args.seat.now.me p
          (λ _. ticket (the c.args.seat.now.me.0).place + 1)
          (λ _. TellsTicketGrant c.args.seat.now.me (ticket (the c.args.seat.now.me.0).place + 1))) word
          (grants_ticket g.K.Kind.rules g.T.Guarded.meaning
          (setting_of (g.T.Guarded.state key.opening.value) key.seats key.conds key.budget) g.K.Kind.is_kind _ _
          c.args.seat.now.me passing.0 passing.1)),
    )

pub returns-clause-step : goal.returns-clause-step
returns-clause-step g c = grind (arith, common_steps)
