use Rattle.std.proofs.Common.{subst}
use Rattle.monk_world.proofs.world.World.run_lines.Goals as goal
use Rattle.monk_world.proofs.{LedLaws.so_far_all, LedLaws.so_far_more, RunLaws.run_is_sound, RunLaws.well_led}
use Rattle.monk_world.proofs.RecordLaws.{keeps_version, runs_are_recorded}
use Rattle.monk_world.specs.{Sound.Sound, WorldViews.WorldView, WorldViews.state_of_view}

pub loop-told-preserved : goal.loop-told-preserved
loop-told-preserved g c =
    so_far_more g.K.Kind.rules g.T.Guarded.meaning (state_of_view c.args.self.now) (state_of_view c.loop-told.self)
    (state_of_view c.step.new.self) c.loop-told.play.2 c.next.new.self.2 c.args.play.2 c.in-Some.told c.step.result
    c.in-Some.ensures.command c.step.ensures.by_table c.loop-told.invariant

pub returns-clause-recorded : goal.returns-clause-recorded
returns-clause-recorded g c =
    let k = g.K.Kind.rules in
    let o = g.T.Guarded.meaning in
    let first = state_of_view c.args.self.now in
    let last = state_of_view c.loop-told.self in
    let sound = subst (λ (v : WorldView). Sound k o (state_of_view v)) c.self.view_is c.self.invariant.sound in
    runs_are_recorded k o first c.args.play.2 last g.K.Kind.is_kind sound
    (so_far_all k o first last c.loop-told.play.2 c.args.play.2 c.in_default.ensures.command c.loop-told.invariant)

pub returns-clause-versions : goal.returns-clause-versions
returns-clause-versions g c =
    keeps_version g.K.Kind.rules g.T.Guarded.meaning (state_of_view c.args.self.now) c.args.play.2
    (state_of_view c.loop-told.self) (returns-clause-recorded g c)

pub returns-clause-well_led : goal.returns-clause-well_led
returns-clause-well_led g c =
    let k = g.K.Kind.rules in
    let o = g.T.Guarded.meaning in
    let first = state_of_view c.args.self.now in
    let last = state_of_view c.loop-told.self in
    let sound = subst (λ (v : WorldView). Sound k o (state_of_view v)) c.self.view_is c.self.invariant.sound in
    let led =
    so_far_all k o first last c.loop-told.play.2 c.args.play.2 c.in_default.ensures.command c.loop-told.invariant in
    let after = run_is_sound k o first led.told last g.K.Kind.is_kind sound led.is_run in
    well_led k o last after.right after.owner after.is_sound
