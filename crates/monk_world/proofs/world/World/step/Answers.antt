use Rattle.std.proofs.Common.{subst}
use Rattle.monk_world.proofs.world.World.step.Goals as goal
use Rattle.monk_world.proofs.RecordLaws.{steps_are_taken}
use Rattle.monk_world.specs.{Sound.Sound, WorldViews.WorldView, WorldViews.state_of_view}

pub returns-clause-taken : goal.returns-clause-taken
returns-clause-taken g c =
    let first = state_of_view c.args.self.now in
    let sound = subst (λ (v : WorldView). Sound g.K.Kind.rules g.T.Guarded.meaning (state_of_view v)) c.self.view_is
    c.self.invariant.sound in
    steps_are_taken g.K.Kind.rules g.T.Guarded.meaning first c.args.seat c.args.command c.tell.result
    (state_of_view c.tell.new.self) g.K.Kind.is_kind sound c.tell.ensures
