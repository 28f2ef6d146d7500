use Rattle.std.proofs.{Common.subst, Common.arith, lemmas.Grind.common_steps}
use Rattle.monk_world.proofs.world.World.history.Goals as goal
use Rattle.monk_world.proofs.RunLaws.{well_led}
use Rattle.monk_world.specs.{Runs.IsWellLed, WorldViews.WorldView, WorldViews.state_of_view, WorldViews.view_in}
use Rattle.monk_history.specs.Meaning.Legal.{IsLegal}
use Rattle.monk_floor.specs.View.{monitor_of}

pub returns-clause-legal : goal.returns-clause-legal
returns-clause-legal g c =
    subst (λ (v : WorldView). IsLegal (monitor_of g.K.Kind.rules g.T.Guarded.meaning v.floor) v.floor.history)
    c.self.view_is c.self.invariant.sound.is_sound.legal

pub returns-clause-few : goal.returns-clause-few
returns-clause-few g c = grind (arith, common_steps)

pub returns-clause-well_led : goal.returns-clause-well_led
returns-clause-well_led g c =
    let h = c.self.invariant.sound in
    subst (λ (v : WorldView). IsWellLed g.K.Kind.rules g.T.Guarded.meaning (state_of_view v)) c.self.view_is
    (well_led g.K.Kind.rules g.T.Guarded.meaning (state_of_view (view_in c.self.inside.words c.self.inside.floor))
    h.right h.owner h.is_sound)
