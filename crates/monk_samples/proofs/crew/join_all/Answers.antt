use Rattle.std.proofs.Common.{◌≡◌, List, [], ◌∷◌, ◌++◌, map, append_assoc, sym, ap, subst, ◌∙◌, arith}
use Rattle.std.specs.{Prelude.Option, Prelude.None, Prelude.vec_items, Vec.Iter.into_iter_items}
use Rattle.monk_hall.specs.Tokens.{Token}
use Rattle.monk_samples.proofs.crew.join_all.Goals as goal
use Rattle.monk_samples.proofs.EndLaws.{HaveJoined, joined_then}
use Rattle.monk_samples.proofs.RunLaws.{first_of, rest_of, same_all}
use Rattle.monk_samples.specs.{Rounds.HasServed, Crews.IsOf, Faults.fault_after}
use Rattle.monk_samples.specs.declared.{crew_fault.CrewFault.CrewFault, rota.Rota.Rota}
use Rattle.std.proofs.lemmas.Grind.{common_steps}

pub loop-shift-init : goal.loop-shift-init
loop-shift-init g c =
    let e : into_iter_items c.into_iter-shift-iterator.result ≡ vec_items c.args.crew =
    c.into_iter-shift-iterator.ensures.into_iter_gives.0 in (
      [],
      ap (λ xs. map (λ s. s.promise.pass.value) xs) (sym e),
      subst (λ (qs : List Token). HaveJoined g.K.Kind.rules g.T.Guarded.meaning
          (g.G.Gate.answers c.args.gate.now) c.args.rota.scenario
          c.args.rota.seats c.args.rota.rounds c.args.hall.now [] qs None) (sym c.in_ok-passes.ensures.items) tt,
      same_all (into_iter_items c.into_iter-shift-iterator.result) (vec_items c.args.crew)
          (λ s. (s.promise.hall.value ≡ c.args.hall.now) × (s.promise.gate.value ≡ c.args.gate.now)
          × (s.promise.rota.value ≡ c.args.rota))
          e c.requires,
    )

pub loop-shift-preserved : goal.loop-shift-preserved
loop-shift-preserved g c =
    let inv = c.loop-shift.invariant in
    let p = c.in-Some.shift.promise in
    let steps = c.in-Some.ensures.steps.0 in
    let from = first_of (into_iter_items c.next.new.self) (into_iter_items c.loop-shift.shift-iterator) c.in-Some.shift
    (λ s. (s.promise.hall.value ≡ c.args.hall.now) × (s.promise.gate.value ≡ c.args.gate.now)
    × (s.promise.rota.value ≡ c.args.rota))
    steps inv.3 in
    let kept = c.in-Some-join.ensures in
    let of : IsOf c.args.hall.now c.in-Some-join.pass = grind (arith, common_steps) in
    let here = subst (λ gate. HasServed g.K.Kind.rules g.T.Guarded.meaning (g.G.Gate.answers gate) p.rota.value.scenario
    p.rota.value.seats p.rota.value.rounds p.pass.value c.in-Some-join.pass c.in-Some-join.end) from.1 kept.1 in
    let served =
    subst (λ (r : Rota). HasServed g.K.Kind.rules g.T.Guarded.meaning (g.G.Gate.answers c.args.gate.now) r.scenario
    r.seats r.rounds p.pass.value c.in-Some-join.pass c.in-Some-join.end) from.2 here in
    let joined =
    joined_then g.K.Kind.rules g.T.Guarded.meaning
    (g.G.Gate.answers c.args.gate.now) c.args.rota.scenario c.args.rota.seats
    c.args.rota.rounds c.args.hall.now inv.0
    (vec_items c.loop-shift.passes) p.pass.value c.in-Some-join.pass c.in-Some-join.end
    c.loop-shift.fault inv.2 of served in
    let told =
    subst (λ (qs : List Token). HaveJoined g.K.Kind.rules g.T.Guarded.meaning (g.G.Gate.answers c.args.gate.now)
    c.args.rota.scenario c.args.rota.seats c.args.rota.rounds c.args.hall.now (inv.0 ++ p.pass.value ∷ []) qs
    (fault_after c.loop-shift.fault c.in-Some-join.end)) (sym c.in_ok-push.ensures.items) joined in (
      inv.0 ++ p.pass.value ∷ [],
      inv.1 ∙ ap (λ xs. inv.0 ++ map (λ s. s.promise.pass.value) xs) steps
          ∙ sym (append_assoc inv.0 (p.pass.value ∷ []) _),
      subst (λ (fault : Option CrewFault). HaveJoined g.K.Kind.rules g.T.Guarded.meaning
          (g.G.Gate.answers c.args.gate.now)
          c.args.rota.scenario c.args.rota.seats c.args.rota.rounds c.args.hall.now (inv.0 ++ p.pass.value ∷ [])
          (vec_items c.push.new.self) fault)
          (sym c.fault_after-fault.ensures) told,
      rest_of (into_iter_items c.next.new.self) (into_iter_items c.loop-shift.shift-iterator) c.in-Some.shift
          (λ s. (s.promise.hall.value ≡ c.args.hall.now) × (s.promise.gate.value ≡ c.args.gate.now)
          × (s.promise.rota.value ≡ c.args.rota))
          steps inv.3,
    )

pub returns-in-None-fault-clause-served : goal.returns-in-None-fault-clause-served
returns-in-None-fault-clause-served g c = grind (arith, common_steps)

pub returns-in-None-fault-clause-fault : goal.returns-in-None-fault-clause-fault
returns-in-None-fault-clause-fault g c = tt

pub returns-in-Some-fault-clause-fault : goal.returns-in-Some-fault-clause-fault
returns-in-Some-fault-clause-fault g c = grind (arith, common_steps)

pub returns-in_err-push-clause-fault : goal.returns-in_err-push-clause-fault
returns-in_err-push-clause-fault g c = grind (arith, common_steps)

pub returns-in_err-passes-clause-fault : goal.returns-in_err-passes-clause-fault
returns-in_err-passes-clause-fault g c = grind (arith, common_steps)
