use Rattle.std.proofs.Common.{sym, ap, ◌∙◌}
use Rattle.std.specs.Prelude.{◌==◌}
use Rattle.monk_world.specs.declared.command.Command.TheVariants as command
use Rattle.monk_world.proofs.StateSteps as world
use Rattle.monk_world.proofs.world.World.peek.Goals as goal
use Rattle.monk_world.specs.{Places.stage, Places.active_stage, declared.place.Place.Place}

pub invariant_of-self : goal.invariant_of-self
invariant_of-self g c =
    world.kept g.K.Kind.rules g.T.Guarded.meaning c.self.inside.words c.self.inside.floor c.args.self.now c.self.view_is
    c.args.seat command.Peek c.peek.result c.peek.new.self c.self.inside.floor c.self.inside.conds g.K.Kind.is_kind
    c.self.invariant c.requires c.peek.ensures.shows.seats
    (world.active_peek_goes g.K.Kind.rules g.T.Guarded.meaning c.self.inside.words c.self.inside.floor c.args.self.now
    c.self.view_is c.args.seat _ c.peek.result c.peek.new.self
    (world.active_is _ (ap (λ (p : Place). stage p == active_stage) (sym c.place.ensures ∙ c.in-Active.is))).is
    c.peek.ensures.answer c.peek.ensures.shows)

pub returns-in-Active : goal.returns-in-Active
returns-in-Active g c =
    world.returned g.K.Kind.rules g.T.Guarded.meaning c.self.inside.words c.self.inside.floor c.args.self.now
    c.self.view_is c.args.seat command.Peek c.peek.result _
    (world.active_peek_goes g.K.Kind.rules g.T.Guarded.meaning c.self.inside.words c.self.inside.floor c.args.self.now
    c.self.view_is c.args.seat _ c.peek.result c.peek.new.self
    (world.active_is _ (ap (λ (p : Place). stage p == active_stage) (sym c.place.ensures ∙ c.in-Active.is))).is
    c.peek.ensures.answer c.peek.ensures.shows)
