use Rattle.std.specs.Prelude.{◌≡◌, All, List, ◌++◌, map, vec_items}
use Rattle.std.specs.Vec.Iter.{into_iter_items}
use Rattle.monk_hall.specs.Tokens.{Token}
use Rattle.monk_samples.proofs.EndLaws.{HaveJoined}
use Rattle.monk_samples.proofs.crew.join_all.Given as goal

-- the threads that were joined, and those still to be joined
abbrev pub invariant-loop-shift : goal.invariant-loop-shift
invariant-loop-shift g l = (done : List Token)
    × (map (λ s. s.promise.pass.value) (vec_items l.fn.crew) ≡ done
    ++ map (λ s. s.promise.pass.value) (into_iter_items l.shift-iterator))
    × HaveJoined g.K.Kind.rules g.T.Guarded.meaning
    (g.G.Gate.answers l.gate) l.fn.rota.scenario l.fn.rota.seats l.fn.rota.rounds l.hall
    done (vec_items l.passes) l.fault
    × All (λ s. (s.promise.hall.value ≡ l.hall) × (s.promise.gate.value ≡ l.gate) × (s.promise.rota.value ≡ l.fn.rota))
    (into_iter_items l.shift-iterator)
