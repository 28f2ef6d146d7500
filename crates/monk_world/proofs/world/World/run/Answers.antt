use Rattle.std.proofs.Common.{ℕ, List, sym, subst, take, get_or}
use Rattle.std.proofs.lemmas.List.{take_all, take_more}
use Rattle.monk_world.proofs.world.World.run.Goals as goal
use Rattle.monk_world.proofs.{LedLaws.led_more, RunLaws.run_is_sound, RunLaws.well_led}
use Rattle.monk_world.proofs.RecordLaws.{keeps_version, runs_are_recorded}
use Rattle.monk_world.specs.{Telling.IsLed, Sound.Sound, WorldViews.WorldView, WorldViews.state_of_view}
use Rattle.monk_world.specs.declared.command.Command.{Command, TheVariants.Arrive}

pub loop-seat-preserved : goal.loop-seat-preserved
loop-seat-preserved g c =
    let commands = c.args.commands.now in
    let at = c.loop-seat.seat-index in
    let first = state_of_view c.args.self.now in
    let last = state_of_view c.step.new.self in
    let told = get_or commands at (0, Arrive) in
    subst (λ (cs : List (ℕ × Command)). IsLed g.K.Kind.rules g.T.Guarded.meaning first cs last)
    (sym (take_more commands at (0, Arrive) c.loop-seat-test.true))
    (led_more g.K.Kind.rules g.T.Guarded.meaning first (state_of_view c.loop-seat.self) last (take at commands) told.0
    told.1 c.step.result c.loop-seat.invariant c.step.ensures.by_table)

pub returns-clause-recorded : goal.returns-clause-recorded
returns-clause-recorded g c =
    let first = state_of_view c.args.self.now in
    let last = state_of_view c.loop-seat.self in
    let sound = subst (λ (v : WorldView). Sound g.K.Kind.rules g.T.Guarded.meaning (state_of_view v)) c.self.view_is
    c.self.invariant.sound in
    let led = subst (λ (cs : List (ℕ × Command)). IsLed g.K.Kind.rules g.T.Guarded.meaning first cs last)
    (take_all _ c.args.commands.now c.loop-seat-test.false) c.loop-seat.invariant in
    runs_are_recorded g.K.Kind.rules g.T.Guarded.meaning first c.args.commands.now last g.K.Kind.is_kind sound led

pub returns-clause-versions : goal.returns-clause-versions
returns-clause-versions g c =
    keeps_version g.K.Kind.rules g.T.Guarded.meaning (state_of_view c.args.self.now) c.args.commands.now
    (state_of_view c.loop-seat.self) (returns-clause-recorded g c)

pub returns-clause-well_led : goal.returns-clause-well_led
returns-clause-well_led g c =
    let first = state_of_view c.args.self.now in
    let last = state_of_view c.loop-seat.self in
    let sound = subst (λ (v : WorldView). Sound g.K.Kind.rules g.T.Guarded.meaning (state_of_view v)) c.self.view_is
    c.self.invariant.sound in
    let after = run_is_sound g.K.Kind.rules g.T.Guarded.meaning first c.loop-seat.invariant.told last g.K.Kind.is_kind
    sound c.loop-seat.invariant.is_run in
    well_led g.K.Kind.rules g.T.Guarded.meaning last after.right after.owner after.is_sound
