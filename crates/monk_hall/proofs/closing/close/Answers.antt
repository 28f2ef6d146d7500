use Rattle.std.proofs.{Common.arith, Common.ap, lemmas.Grind.common_steps}
use Rattle.monk_hall.proofs.closing.close.Goals as goal
use Rattle.monk_hall.{proofs.ClosingLaws.ended_peeked, proofs.ClosingLaws.busy_unlooked, specs.Tokens.Holder}

pub end-requires-clause-unqueued : goal.end-requires-clause-unqueued
end-requires-clause-unqueued g c κs within = grind (arith, common_steps)

pub returns-in-Some-clause-ended : goal.returns-in-Some-clause-ended
returns-in-Some-clause-ended g c =
    ended_peeked g.K.Kind.rules g.T.Guarded.meaning c.args.active c.peek_alone.new.self c.end.result.history.items
    (g.T.Guarded.state c.end.result.object)
    (ap (λ (a : Holder). a.floor) c.peek_alone.ensures.peeked.is) (ap (λ (a : Holder). a.me.seat)
    c.peek_alone.ensures.peeked.is)
    (ap (λ (a : Holder). a.me.mine) c.peek_alone.ensures.peeked.is) c.end.ensures

pub returns-then-has_queued-clause-busy : goal.returns-then-has_queued-clause-busy
returns-then-has_queued-clause-busy g c = grind (arith, common_steps, busy_unlooked)
