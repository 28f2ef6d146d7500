use Rattle.std.proofs.Common.{ap, sym, subst, ◌∙◌}
use Rattle.monk_history.specs.Meaning.Events.{has_conditions}
use Rattle.monk_history.specs.declared.event.{Event.Event, Event.TheVariants.Signal, Next.TheVariants.Stay}
use Rattle.monk_floor.proofs.floor.Floor.next_non_blocking.Goals as goal
use Rattle.monk_floor.proofs.CallLaws.{makes_no_signaller, signal_is}
use Rattle.monk_floor.specs.{Chosen.IsChosen, Releases.MayCallOn}

pub next_staying-requires-clause-call : goal.next_staying-requires-clause-call
next_staying-requires-clause-call g c κs within =
    subst (λ (e : Event). MayCallOn g.K.Kind.rules g.T.Guarded.meaning c.args.self.now e)
    (signal_is c.args.event c.in-Some.cond (sym c.signalled.ensures ∙ c.in-Some.is) c.requires.release
    ∙ ap (λ s. Signal s c.in-Some.cond Stay) (sym c.seat.ensures)) c.requires.call

pub returns-in-Some : goal.returns-in-Some
returns-in-Some g c =
    subst (λ (e : Event). IsChosen g.K.Kind.rules g.T.Guarded.meaning c.args.self.now e c.args.entry_known c.args.pick
    c.next_staying.result)
    (sym (signal_is c.args.event c.in-Some.cond (sym c.signalled.ensures ∙ c.in-Some.is) c.requires.release
    ∙ ap (λ s. Signal s c.in-Some.cond Stay) (sym c.seat.ensures)))
    (c.next_staying.ensures c.args.entry_known c.args.pick)

pub next_waiter-requires-clause-release : goal.next_waiter-requires-clause-release
next_waiter-requires-clause-release g c κs within =
    makes_no_signaller g.T.Guarded.meaning g.K.Kind.rules.mode c.args.event (ap has_conditions c.requires.mode)
    c.requires.call.offered
    c.requires.release (sym c.signalled.ensures ∙ c.in-None.is)
