use Rattle.std.proofs.Common.{◌≡◌, ◌++◌, map, refl, ap, ◌∙◌, arith}
use Rattle.std.{specs.Prelude.vec_items, specs.Vec.Iter.into_iter_items, proofs.lemmas.Grind.common_steps}
use Rattle.monk_samples.proofs.crew.workers.Goals as goal
use Rattle.monk_samples.proofs.RunLaws.{one_more, first_of, rest_of, same_all, none_yet, mapped_more}
use Rattle.monk_samples.specs.Crews.{IsReady}

pub loop-pass-init : goal.loop-pass-init
loop-pass-init g c =
    let e : into_iter_items c.into_iter-pass-iterator.result ≡ vec_items c.args.passes =
    c.into_iter-pass-iterator.ensures.into_iter_gives.0 in (
      none_yet (vec_items c.in_ok-workers.workers)
          (λ w. ((w.hall.now ≡ c.args.hall.now) × IsReady g.K.Kind.rules c.args.hall.now w.pass)
          × (w.gate.now ≡ c.args.gate.now) × (w.rota ≡ c.args.rota))
          c.in_ok-workers.ensures.items,
      ap (λ ws. map (λ w. w.pass) ws ++ into_iter_items c.into_iter-pass-iterator.result)
          c.in_ok-workers.ensures.items ∙ e,
      same_all (into_iter_items c.into_iter-pass-iterator.result) (vec_items c.args.passes)
          (IsReady g.K.Kind.rules c.args.hall.now) e c.requires,
    )

pub loop-pass-preserved : goal.loop-pass-preserved
loop-pass-preserved g c =
    let inv = c.loop-pass.invariant in
    let steps = c.in-Some.ensures.steps.0 in
    let here = first_of (into_iter_items c.next.new.self) (into_iter_items c.loop-pass.pass-iterator) c.in-Some.pass
    (IsReady g.K.Kind.rules c.args.hall.now) steps inv.2 in (
      one_more (vec_items c.loop-pass.workers) (vec_items c.push.new.self) _
          (λ w. ((w.hall.now ≡ c.args.hall.now) × IsReady g.K.Kind.rules c.args.hall.now w.pass)
          × (w.gate.now ≡ c.args.gate.now) × (w.rota ≡ c.args.rota))
          c.in_ok-push.ensures.items inv.0 ((refl, here), refl, refl),
      mapped_more (vec_items c.loop-pass.workers) (vec_items c.push.new.self) _ (λ w. w.pass) c.in_ok-push.ensures.items
          (into_iter_items c.next.new.self) (into_iter_items c.loop-pass.pass-iterator) steps ∙ inv.1,
      rest_of (into_iter_items c.next.new.self) (into_iter_items c.loop-pass.pass-iterator) c.in-Some.pass
          (IsReady g.K.Kind.rules c.args.hall.now) steps inv.2,
    )

pub returns-clause-passes : goal.returns-clause-passes
returns-clause-passes g c = grind (arith, common_steps)

pub returns-in_err-workers-clause-fault : goal.returns-in_err-workers-clause-fault
returns-in_err-workers-clause-fault g c = grind (arith, common_steps)

pub returns-in_err-push-clause-fault : goal.returns-in_err-push-clause-fault
returns-in_err-push-clause-fault g c = grind (arith, common_steps)
