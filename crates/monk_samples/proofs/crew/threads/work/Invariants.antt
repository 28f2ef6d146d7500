use Rattle.monk_samples.proofs.crew.threads.work.Given as goal
use Rattle.monk_samples.specs.{Crews.IsOf, Rounds.HasDoneRounds, Rounds.round_of}

abbrev pub invariant-loop-done : goal.invariant-loop-done
invariant-loop-done g l = let k = g.K.Kind.rules in let p = l.initial.pass in
    IsOf l.hall l.pass
    × HasDoneRounds k g.T.Guarded.meaning (g.G.Gate.answers l.gate p.me.seat)
    (round_of l.rota.scenario k p.me.setting l.rota.seats p.me.seat) l.done p l.pass
