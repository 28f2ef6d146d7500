use Rattle.std.proofs.{Common.arith, Common.rules, lemmas.Grind.common_steps}
use Rattle.monk_hall.proofs.making.deal.Goals as goal
use Rattle.monk_hall.proofs.{Dealing.fresh_next, Dealing.tokens_more, Reached.deals_next}
use Rattle.monk_hall.specs.Rule.{setting_of}

pub deal-seat-requires-after_bounds : goal.deal-seat-requires-after_bounds
deal-seat-requires-after_bounds g c κs within =
    let inv = c.loop-dealt.invariant in
    let next = fresh_next
    (setting_of (g.T.Guarded.state c.args.words.now.table.shared.key.opening.value) c.args.seats
    c.args.words.now.table.shared.key.conds
    c.args.budget) c.loop-dealt.first.seat.me.0 c.args.seats c.loop-dealt.dealt c.loop-dealt-test.true inv.2 in
    let sized = c.requires.table.1.0 in (
      inv.0,
      omega arith,
      deals_next g.K.Kind.rules g.T.Guarded.meaning
          (setting_of (g.T.Guarded.state c.args.words.now.table.shared.key.opening.value)
          c.args.words.now.table.shared.key.seats
          c.args.words.now.table.shared.key.conds c.args.words.now.table.shared.key.budget) _
          c.loop-dealt.first.seat.me.0 _ _ next,
    )

pub fresh_pass-requires-clause-numbers : goal.fresh_pass-requires-clause-numbers
fresh_pass-requires-clause-numbers g c κs within = search (rules, fresh_next)

pub loop-dealt-preserved : goal.loop-dealt-preserved
loop-dealt-preserved g c = grind (arith, common_steps, fresh_next, tokens_more)
