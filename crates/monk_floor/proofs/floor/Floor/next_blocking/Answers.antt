use Rattle.std.proofs.Common.{ap, sym, subst, ◌∙◌}
use Rattle.monk_history.specs.declared.event.{Event.Event, Event.TheVariants.Signal, Next.TheVariants.Stay}
use Rattle.monk_floor.proofs.floor.Floor.next_blocking.Goals as goal
use Rattle.monk_floor.proofs.CallLaws.{serves_nobody, signal_is}
use Rattle.monk_floor.specs.{Chosen.IsChosen, Releases.MayCallOn}

pub next_served-requires-clause-call : goal.next_served-requires-clause-call
next_served-requires-clause-call g c κs within =
    subst (λ (e : Event). MayCallOn g.K.Kind.rules g.T.Guarded.meaning c.args.self.now e)
    (signal_is c.args.event c.in-Some.cond (sym c.signalled.ensures ∙ c.in-Some.is) c.requires.release
    ∙ ap (λ s. Signal s c.in-Some.cond Stay) (sym c.seat.ensures)) c.requires.call

pub returns-in-Some : goal.returns-in-Some
returns-in-Some g c =
    subst (λ (e : Event). IsChosen g.K.Kind.rules g.T.Guarded.meaning c.args.self.now e c.args.entry_known c.args.pick
    c.next_served.result)
    (sym (signal_is c.args.event c.in-Some.cond (sym c.signalled.ensures ∙ c.in-Some.is) c.requires.release
    ∙ ap (λ s. Signal s c.in-Some.cond Stay) (sym c.seat.ensures)))
    (c.next_served.ensures c.args.entry_known c.args.pick)

pub next_signaller-requires-clause-release : goal.next_signaller-requires-clause-release
next_signaller-requires-clause-release g c κs within =
    serves_nobody g.T.Guarded.meaning g.K.Kind.rules.mode c.args.event c.requires.mode c.requires.call.offered
    c.requires.release (sym c.signalled.ensures ∙ c.in-None.is)
