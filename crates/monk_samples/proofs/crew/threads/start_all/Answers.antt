use Rattle.std.proofs.Common.{◌≡◌, ◌∷◌, map, sym, ap, ◌∙◌, arith, rules}
use Rattle.std.{specs.Prelude.vec_items, specs.Vec.Iter.into_iter_items, proofs.lemmas.Grind.common_steps}
use Rattle.monk_samples.proofs.crew.threads.start_all.Goals as goal
use Rattle.monk_samples.proofs.EndLaws.{if_err, is_memory}
use Rattle.monk_samples.proofs.RunLaws.{one_more, first_of, rest_of, same_all, none_yet, mapped_more}
use Rattle.monk_samples.specs.Crews.{IsReady}

pub loop-worker-init : goal.loop-worker-init
loop-worker-init g c = search (rules, none_yet, same_all)

pub loop-worker-preserved : goal.loop-worker-preserved
loop-worker-preserved g c =
    let inv = c.loop-worker.invariant in
    let steps = c.in-Some.ensures.steps.0 in
    let begun = c.in_ok-start.ensures in
    let here =
    first_of (into_iter_items c.next.new.self) (into_iter_items c.loop-worker.worker-iterator) c.in-Some.worker
    (λ w. ((w.hall.now ≡ c.args.hall.now) × IsReady g.K.Kind.rules c.args.hall.now w.pass)
    × (w.gate.now ≡ c.args.gate.now) × (w.rota ≡ c.args.rota)) steps inv.2 in (
      one_more (vec_items c.loop-worker.crew) (vec_items c.push.new.self) _
          (λ s. (s.promise.hall.value ≡ c.args.hall.now) × (s.promise.gate.value ≡ c.args.gate.now)
          × (s.promise.rota.value ≡ c.args.rota))
          c.in_ok-push.ensures.items inv.0 (begun.hall ∙ here.0.0, begun.gate ∙ here.1, begun.rota ∙ here.2),
      mapped_more (vec_items c.loop-worker.crew) (vec_items c.push.new.self) _
          (λ s. s.promise.pass.value) c.in_ok-push.ensures.items
          (map (λ w. w.pass) (into_iter_items c.next.new.self))
          (map (λ w. w.pass) (into_iter_items c.loop-worker.worker-iterator))
          (ap (λ ws. map (λ w. w.pass) ws) steps
          ∙ ap (λ p. p ∷ map (λ w. w.pass) (into_iter_items c.next.new.self)) (sym begun.pass)) ∙ inv.1,
      rest_of (into_iter_items c.next.new.self) (into_iter_items c.loop-worker.worker-iterator) c.in-Some.worker
          (λ w. ((w.hall.now ≡ c.args.hall.now) × IsReady g.K.Kind.rules c.args.hall.now w.pass)
          × (w.gate.now ≡ c.args.gate.now) × (w.rota ≡ c.args.rota)) steps inv.2,
    )

pub returns-clause-passes : goal.returns-clause-passes
returns-clause-passes g c = grind (arith, common_steps)

pub returns-in_err-crew-clause-fault : goal.returns-in_err-crew-clause-fault
returns-in_err-crew-clause-fault g c = if_err c.from_residual.result _ _ c.from_residual.ensures is_memory

pub returns-in_err-push-clause-fault : goal.returns-in_err-push-clause-fault
returns-in_err-push-clause-fault g c = grind (arith, common_steps)

pub returns-in_err-start-clause-fault : goal.returns-in_err-start-clause-fault
returns-in_err-start-clause-fault g c = grind (arith, common_steps)
