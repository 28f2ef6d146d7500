use Rattle.std.proofs.Common.{refl, sym, ap, ◌∙◌}
use Rattle.monk_history.specs.declared.event.Next.{Next}
use Rattle.monk_history.specs.declared.event.Next.TheVariants as next
use Rattle.monk_world.specs.declared.command.Command.TheVariants as command
use Rattle.monk_world.specs.declared.place.Place.TheVariants as place
use Rattle.monk_world.proofs.StateSteps as world
use Rattle.monk_world.proofs.world.World.grant.Goals as goal

pub ticket_grant-requires-clause-ticket : goal.ticket_grant-requires-clause-ticket
ticket_grant-requires-clause-ticket g c = world.passing_here g.K.Kind.rules g.T.Guarded.meaning c.self.inside.words
    c.self.inside.floor c.args.self.now c.self.view_is c.args.seat c.in-Passing.ticket c.in-Passing.home
    c.self.inside.conds c.self.invariant (sym c.place.ensures ∙ c.in-Passing.is)

pub invariant_of-self : goal.invariant_of-self
invariant_of-self g c =
    world.kept g.K.Kind.rules g.T.Guarded.meaning c.self.inside.words c.self.inside.floor c.args.self.now c.self.view_is
    c.args.seat command.Grant c.ticket_grant.result c.ticket_grant.new.self c.self.inside.floor c.self.inside.conds
    g.K.Kind.is_kind c.self.invariant c.requires c.ticket_grant.ensures.shows.seats
    (world.ticket_grant_goes g.K.Kind.rules g.T.Guarded.meaning c.self.inside.words c.self.inside.floor c.args.self.now
    c.self.view_is c.args.seat c.in-Passing.ticket c.in-Passing.home c.ticket_grant.result c.ticket_grant.new.self
    c.self.inside.conds c.self.invariant (sym c.place.ensures ∙ c.in-Passing.is) c.ticket_grant.ensures.answer
    c.ticket_grant.ensures.shows)

pub returns-in-Passing : goal.returns-in-Passing
returns-in-Passing g c =
    world.returned g.K.Kind.rules g.T.Guarded.meaning c.self.inside.words c.self.inside.floor c.args.self.now
    c.self.view_is c.args.seat command.Grant c.ticket_grant.result _
    (world.ticket_grant_goes g.K.Kind.rules g.T.Guarded.meaning c.self.inside.words c.self.inside.floor c.args.self.now
    c.self.view_is c.args.seat c.in-Passing.ticket c.in-Passing.home c.ticket_grant.result c.ticket_grant.new.self
    c.self.inside.conds c.self.invariant (sym c.place.ensures ∙ c.in-Passing.is) c.ticket_grant.ensures.answer
    c.ticket_grant.ensures.shows)

pub seat_grant-requires-clause-called : goal.seat_grant-requires-clause-called
seat_grant-requires-clause-called g c = world.called_here g.K.Kind.rules g.T.Guarded.meaning c.self.inside.words
    c.self.inside.floor c.args.self.now c.self.view_is c.args.seat (next.Waiter c.in-Back-Waiter-default.called)
    c.in-Back-Waiter-default.home c.in-Back-Waiter-default.called c.self.inside.conds c.self.invariant
    (sym c.place.ensures ∙ (c.in-Back-Waiter-default.is
    ∙ ap (λ (x : Next). place.Back x c.in-Back-Waiter-default.home) c.in-Back-Waiter-default.field-0-is)) refl

pub invariant_of-self-in-Waiter-1 : goal.invariant_of-self-in-Waiter-1
invariant_of-self-in-Waiter-1 g c =
    world.kept g.K.Kind.rules g.T.Guarded.meaning c.self.inside.words c.self.inside.floor c.args.self.now c.self.view_is
    c.args.seat command.Grant c.seat_grant.result c.seat_grant.new.self c.self.inside.floor c.self.inside.conds
    g.K.Kind.is_kind c.self.invariant c.requires c.seat_grant.ensures.shows.seats
    (world.waiter_grant_goes g.K.Kind.rules g.T.Guarded.meaning c.self.inside.words c.self.inside.floor c.args.self.now
    c.self.view_is c.args.seat c.in-Back-Waiter-default.called c.in-Back-Waiter-default.home c.seat_grant.result
    c.seat_grant.new.self
    (sym c.place.ensures ∙ (c.in-Back-Waiter-default.is
    ∙ ap (λ (x : Next). place.Back x c.in-Back-Waiter-default.home) c.in-Back-Waiter-default.field-0-is))
    c.seat_grant.ensures.answer c.seat_grant.ensures.shows)

pub returns-in-Back-Waiter-default : goal.returns-in-Back-Waiter-default
returns-in-Back-Waiter-default g c =
    world.returned g.K.Kind.rules g.T.Guarded.meaning c.self.inside.words c.self.inside.floor c.args.self.now
    c.self.view_is c.args.seat command.Grant c.seat_grant.result _
    (world.waiter_grant_goes g.K.Kind.rules g.T.Guarded.meaning c.self.inside.words c.self.inside.floor c.args.self.now
    c.self.view_is c.args.seat c.in-Back-Waiter-default.called c.in-Back-Waiter-default.home c.seat_grant.result
    c.seat_grant.new.self
    (sym c.place.ensures ∙ (c.in-Back-Waiter-default.is
    ∙ ap (λ (x : Next). place.Back x c.in-Back-Waiter-default.home) c.in-Back-Waiter-default.field-0-is))
    c.seat_grant.ensures.answer c.seat_grant.ensures.shows)

pub seat_grant-requires-in-Back-Signaller-default-clause-called :
    goal.seat_grant-requires-in-Back-Signaller-default-clause-called
seat_grant-requires-in-Back-Signaller-default-clause-called g c =
    world.called_here g.K.Kind.rules g.T.Guarded.meaning c.self.inside.words c.self.inside.floor c.args.self.now
    c.self.view_is c.args.seat (next.Signaller c.in-Back-Signaller-default.called) c.in-Back-Signaller-default.home
    c.in-Back-Signaller-default.called c.self.inside.conds c.self.invariant
    (sym c.place.ensures ∙ (c.in-Back-Signaller-default.is
    ∙ ap (λ (x : Next). place.Back x c.in-Back-Signaller-default.home) c.in-Back-Signaller-default.field-0-is)) refl

pub invariant_of-self-in-Signaller-1 : goal.invariant_of-self-in-Signaller-1
invariant_of-self-in-Signaller-1 g c =
    world.kept g.K.Kind.rules g.T.Guarded.meaning c.self.inside.words c.self.inside.floor c.args.self.now c.self.view_is
    c.args.seat command.Grant c.seat_grant-in-Back-Signaller-default.result
    c.seat_grant-in-Back-Signaller-default.new.self c.self.inside.floor c.self.inside.conds g.K.Kind.is_kind
    c.self.invariant c.requires c.seat_grant-in-Back-Signaller-default.ensures.shows.seats
    (world.signaller_grant_goes g.K.Kind.rules g.T.Guarded.meaning c.self.inside.words c.self.inside.floor
    c.args.self.now c.self.view_is c.args.seat c.in-Back-Signaller-default.called c.in-Back-Signaller-default.home
    c.seat_grant-in-Back-Signaller-default.result c.seat_grant-in-Back-Signaller-default.new.self
    (sym c.place.ensures ∙ (c.in-Back-Signaller-default.is
    ∙ ap (λ (x : Next). place.Back x c.in-Back-Signaller-default.home) c.in-Back-Signaller-default.field-0-is))
    c.seat_grant-in-Back-Signaller-default.ensures.answer c.seat_grant-in-Back-Signaller-default.ensures.shows)

pub returns-in-Back-Signaller-default : goal.returns-in-Back-Signaller-default
returns-in-Back-Signaller-default g c =
    world.returned g.K.Kind.rules g.T.Guarded.meaning c.self.inside.words c.self.inside.floor c.args.self.now
    c.self.view_is c.args.seat command.Grant c.seat_grant-in-Back-Signaller-default.result _
    (world.signaller_grant_goes g.K.Kind.rules g.T.Guarded.meaning c.self.inside.words c.self.inside.floor
    c.args.self.now c.self.view_is c.args.seat c.in-Back-Signaller-default.called c.in-Back-Signaller-default.home
    c.seat_grant-in-Back-Signaller-default.result c.seat_grant-in-Back-Signaller-default.new.self
    (sym c.place.ensures ∙ (c.in-Back-Signaller-default.is
    ∙ ap (λ (x : Next). place.Back x c.in-Back-Signaller-default.home) c.in-Back-Signaller-default.field-0-is))
    c.seat_grant-in-Back-Signaller-default.ensures.answer c.seat_grant-in-Back-Signaller-default.ensures.shows)

pub seat_grant-requires-in-Back-Until-default-clause-called :
    goal.seat_grant-requires-in-Back-Until-default-clause-called
seat_grant-requires-in-Back-Until-default-clause-called g c =
    world.called_here g.K.Kind.rules g.T.Guarded.meaning c.self.inside.words c.self.inside.floor c.args.self.now
    c.self.view_is c.args.seat (next.Until c.in-Back-Until-default.called) c.in-Back-Until-default.home
    c.in-Back-Until-default.called c.self.inside.conds c.self.invariant
    (sym c.place.ensures ∙ (c.in-Back-Until-default.is
    ∙ ap (λ (x : Next). place.Back x c.in-Back-Until-default.home) c.in-Back-Until-default.field-0-is)) refl

pub invariant_of-self-in-Until-1 : goal.invariant_of-self-in-Until-1
invariant_of-self-in-Until-1 g c =
    world.kept g.K.Kind.rules g.T.Guarded.meaning c.self.inside.words c.self.inside.floor c.args.self.now c.self.view_is
    c.args.seat command.Grant c.seat_grant-in-Back-Until-default.result c.seat_grant-in-Back-Until-default.new.self
    c.self.inside.floor c.self.inside.conds g.K.Kind.is_kind c.self.invariant c.requires
    c.seat_grant-in-Back-Until-default.ensures.shows.seats
    (world.until_grant_goes g.K.Kind.rules g.T.Guarded.meaning c.self.inside.words c.self.inside.floor c.args.self.now
    c.self.view_is c.args.seat c.in-Back-Until-default.called c.in-Back-Until-default.home
    c.seat_grant-in-Back-Until-default.result c.seat_grant-in-Back-Until-default.new.self
    (sym c.place.ensures ∙ (c.in-Back-Until-default.is
    ∙ ap (λ (x : Next). place.Back x c.in-Back-Until-default.home) c.in-Back-Until-default.field-0-is))
    c.seat_grant-in-Back-Until-default.ensures.answer c.seat_grant-in-Back-Until-default.ensures.shows)

pub returns-in-Back-Until-default : goal.returns-in-Back-Until-default
returns-in-Back-Until-default g c =
    world.returned g.K.Kind.rules g.T.Guarded.meaning c.self.inside.words c.self.inside.floor c.args.self.now
    c.self.view_is c.args.seat command.Grant c.seat_grant-in-Back-Until-default.result _
    (world.until_grant_goes g.K.Kind.rules g.T.Guarded.meaning c.self.inside.words c.self.inside.floor c.args.self.now
    c.self.view_is c.args.seat c.in-Back-Until-default.called c.in-Back-Until-default.home
    c.seat_grant-in-Back-Until-default.result c.seat_grant-in-Back-Until-default.new.self
    (sym c.place.ensures ∙ (c.in-Back-Until-default.is
    ∙ ap (λ (x : Next). place.Back x c.in-Back-Until-default.home) c.in-Back-Until-default.field-0-is))
    c.seat_grant-in-Back-Until-default.ensures.answer c.seat_grant-in-Back-Until-default.ensures.shows)
