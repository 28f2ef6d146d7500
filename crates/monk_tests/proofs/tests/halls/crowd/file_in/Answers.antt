use Rattle.std.proofs.Common.{All, subst, ◌≡◌}
use Rattle.std.proofs.lemmas.List.Elements.{All-tail}
use Rattle.monk_tests.proofs.tests.halls.crowd.file_in.Goals as goal

pub loop-parked-preserved : goal.loop-parked-preserved
loop-parked-preserved c =
    All-tail (λ p. p.hall ≡ c.args.hall.now.id) c.in-Some.parked c.pop_front.new.self.items
    (subst (All (λ p. p.hall ≡ c.args.hall.now.id)) c.in-Some.ensures.items c.loop-parked.invariant)
