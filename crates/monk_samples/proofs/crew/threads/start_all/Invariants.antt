use Rattle.std.specs.Prelude.{◌≡◌, All, ◌++◌, map, vec_items}
use Rattle.std.specs.Vec.Iter.{into_iter_items}
use Rattle.monk_samples.specs.Crews.{IsReady}
use Rattle.monk_samples.proofs.crew.threads.start_all.Given as goal

abbrev pub invariant-loop-worker : goal.invariant-loop-worker
invariant-loop-worker g l =
    All (λ s. (s.promise.hall.value ≡ l.hall) × (s.promise.gate.value ≡ l.gate)
    × (s.promise.rota.value ≡ l.fn.rota)) (vec_items l.crew)
    × (map (λ s. s.promise.pass.value) (vec_items l.crew) ++ map (λ w. w.pass) (into_iter_items l.worker-iterator)
    ≡ map (λ w. w.pass) (vec_items l.fn.workers))
    × All (λ w. ((w.hall.now ≡ l.hall) × IsReady g.K.Kind.rules l.hall w.pass) × (w.gate.now ≡ l.gate)
    × (w.rota ≡ l.fn.rota))
    (into_iter_items l.worker-iterator)
