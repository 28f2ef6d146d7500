use Rattle.std.specs.Prelude.{◌≡◌, All, ◌++◌, map, vec_items}
use Rattle.std.specs.Vec.Iter.{into_iter_items}
use Rattle.monk_samples.specs.Crews.{AreReady, IsReady}
use Rattle.monk_samples.proofs.crew.workers.Given as goal

abbrev pub invariant-loop-pass : goal.invariant-loop-pass
invariant-loop-pass g l =
    All (λ w. ((w.hall.now ≡ l.hall) × IsReady g.K.Kind.rules l.hall w.pass) × (w.gate.now ≡ l.gate)
    × (w.rota ≡ l.rota))
    (vec_items l.workers)
    × (map (λ w. w.pass) (vec_items l.workers) ++ into_iter_items l.pass-iterator ≡ vec_items l.fn.passes)
    × AreReady g.K.Kind.rules l.hall (into_iter_items l.pass-iterator)
