use Rattle.std.proofs.{Common.List, Common.subst, Common.arith, lemmas.List.Elements.All-pop, lemmas.Grind.common_steps}
use Rattle.monk_hall.specs.Tokens.{Token}
use Rattle.monk_samples.proofs.crew.threads.work_all.Goals as goal
use Rattle.monk_samples.proofs.{EndLaws.all_served, EndLaws.fault_then, EndLaws.if_err, RunLaws.if_ok}
use Rattle.monk_samples.specs.{Crews.IsReady, Ends.HaveServed}

pub workers-requires-after_bounds : goal.workers-requires-after_bounds
workers-requires-after_bounds g c κs within =
    (All-pop (IsReady g.K.Kind.rules c.args.hall.now) c.args.passes.items c.part_idle-working.result.0.items
    c.part_idle-working.result.1 c.part_idle-working.ensures.all c.requires.ready).0

pub returns-in_err-back-clause-fault : goal.returns-in_err-back-clause-fault
returns-in_err-back-clause-fault g c = grind (arith, common_steps, fault_then, if_err)

pub returns-clause-served : goal.returns-clause-served
returns-clause-served g c =
    let idle = (All-pop (IsReady g.K.Kind.rules c.args.hall.now) c.args.passes.items c.part_idle-working.result.0.items
    c.part_idle-working.result.1 c.part_idle-working.ensures.all c.requires.ready).1 in
    let served = subst (λ (ps : List Token). HaveServed g.K.Kind.rules g.T.Guarded.meaning
    (g.G.Gate.answers c.args.gate.now)
    c.args.rota.scenario c.args.rota.seats c.args.rota.rounds c.args.hall.now ps c.in_ok-back.back.items)
    c.in_ok-workers.ensures.passes c.in_ok-back.ensures.1.0 in
    grind (arith, common_steps, if_ok, all_served)
