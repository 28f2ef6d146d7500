use Rattle.std.proofs.Common.{◌∙◌, ◌-◌, Some, ap, get_or, sym, take}
use Rattle.monk_kinds.specs.Names.{rules_named}
use Rattle.monk_history.specs.Meaning.{Named.named_monitor, Situation.situation}
use Rattle.monk_history.specs.declared.event.{Event.TheVariants.Enter, Via.TheVariants.Free}
use Rattle.monk_audit.{specs.Reasons.number_of, specs.declared.verdict.Verdict.Verdict, proofs.PublicLaws.fault_again}
use Rattle.monk_tell.proofs.told.blamed.Goals as goal
use Rattle.monk_tell.proofs.TellLaws.{fault_reason, fault_there, judged_fault}
use Rattle.monk_tell.specs.Told.{allowed_events, blame_by, blame_of_event}

pub overflow_sub-fault : goal.overflow_sub-fault
overflow_sub-fault g c =
    (fault_there c.args.history.header.now c.args.history.events.now c.args.history.verdict _ _ c.args.history.judged
    c.in-Forbidden.is).0

pub bounds-history-step : goal.bounds-history-step
bounds-history-step g c =
    (fault_there c.args.history.header.now c.args.history.events.now c.args.history.verdict _ _ c.args.history.judged
    c.in-Forbidden.is).1

pub blame-requires-clause-reason : goal.blame-requires-clause-reason
blame-requires-clause-reason g c κs within =
    let h = c.args.history.header.now in
    let es = c.args.history.events.now in
    let fault = judged_fault h es c.args.history.verdict c.in-Forbidden.step c.in-Forbidden.reason c.args.history.judged
    c.in-Forbidden.is in
    ap number_of c.numbered.ensures ∙ fault_again _ _ _ _ fault
    ∙ fault_reason h es c.in-Forbidden.step c.in-Forbidden.reason _ _ _ fault
    (c.rules_by_name-rules.ensures ∙ ap rules_named c.kind.ensures) c.requires.named
    (c.requires.stands.stands
    ∙ ap (λ (v : Verdict). situation (named_monitor h) (take (allowed_events v) es)) c.in-Forbidden.is)

pub returns-in_ok-blame-in-Forbidden : goal.returns-in_ok-blame-in-Forbidden
returns-in_ok-blame-in-Forbidden g c =
    let h = c.args.history.header.now in
    let es = c.args.history.events.now in
    let step = c.in-Forbidden.step in
    let rules = c.rules_by_name-rules.ensures ∙ ap rules_named c.kind.ensures in
    let fault = judged_fault h es c.args.history.verdict step c.in-Forbidden.reason c.args.history.judged
    c.in-Forbidden.is in
    let number = ap number_of c.numbered.ensures ∙ fault_again _ _ _ _ fault in
    let stands = c.requires.stands.stands
    ∙ ap (λ (v : Verdict). situation (named_monitor h) (take (allowed_events v) es)) c.in-Forbidden.is in
    ap Some (c.in_ok-blame-in-Forbidden.ensures
    ∙ (λ i. blame_of_event h.kind (rules i) h.seats h.conds (c.requires.named i) (stands i) step (number i)
    (get_or es (step - 1) (Enter 0 Free))))
    ∙ ap (blame_by h.kind (named_monitor h) es) (sym c.in-Forbidden.is)
