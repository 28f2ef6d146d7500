use Rattle.std.proofs.Common.{◌≡◌, ◌<◌, true, ap, subst, sym, ◌∙◌, arith}
use Rattle.std.specs.Prelude.{slice_set}
use Rattle.monk_history.specs.Limits.{most_seats, most_conds}
use Rattle.monk_history.specs.Meaning.{Reasons.is_condition, Signallers.is_empty, Events.seat_of, Events.signals_on}
use Rattle.monk_floor.proofs.queues.Queues.join.Goals as goal
use Rattle.monk_floor.proofs.ShownLaws.{places_none, passed_apart, waiting, signalling, leaving, serving_all}
use Rattle.monk_floor.proofs.ShownLaws.{serving_waiting, until}
use Rattle.monk_floor.specs.Queues.{queue_at, lists_of, in_lists, IsServed}

pub push-requires-clause-apart : goal.push-requires-clause-apart
push-requires-clause-apart c =
    places_none c.in-Wait.seat c.self.inside.predicates c.self.inside.links
    ((λ i. in_lists (seat_of (sym c.in-Wait.is i)) (c.self.view_is i)) ∙ c.requires.apart)

pub push-requires-then-not-is_unwaited-clause-apart : goal.push-requires-then-not-is_unwaited-clause-apart
push-requires-then-not-is_unwaited-clause-apart c =
    places_none c.in-Signal.seat c.self.inside.predicates c.self.inside.links
    ((λ i. in_lists (seat_of (sym c.in-Signal.is i)) (c.self.view_is i)) ∙ c.requires.apart)

pub push-requires-then-not-is_stay-clause-apart : goal.push-requires-then-not-is_stay-clause-apart
push-requires-then-not-is_stay-clause-apart c =
    places_none c.in-Until.seat c.self.inside.predicates c.self.inside.links
    ((λ i. in_lists (seat_of (sym c.in-Until.is i)) (c.self.view_is i)) ∙ c.requires.apart)

pub returns-in-Wait : goal.returns-in-Wait
returns-in-Wait c =
    subst (λ q. IsServed q c.args.event (lists_of c.self.inside.predicates c.push.new.self)) c.self.view_is
    (waiting c.self.inside.predicates c.self.inside.links c.args.event c.in-Wait.seat c.in-Wait.cond c.in-Wait.field-2
    c.condition.result c.push.new.self c.in-Wait.is c.condition.ensures c.push.ensures)

pub returns-then-not-is_unwaited : goal.returns-then-not-is_unwaited
returns-then-not-is_unwaited c =
    subst (λ q. IsServed q c.args.event (lists_of c.self.inside.predicates c.pass.new.self)) c.self.view_is
    (signalling c.self.inside.predicates c.self.inside.links c.args.event c.in-Signal.seat c.in-Signal.cond
    c.in-Signal.field-2
    c.condition-then-not-is_unwaited.result c.push-then-not-is_unwaited.new.self c.pass.new.self c.in-Signal.is
    c.condition-then-not-is_unwaited.ensures
    (c.if-not-is_unwaited.ensures ∙ ap (λ q. is_empty (queue_at q.conditions c.in-Signal.cond)) (sym c.self.view_is))
    c.push-then-not-is_unwaited.ensures c.pass.ensures)

pub returns-in-SignalLeave : goal.returns-in-SignalLeave
returns-in-SignalLeave c =
    subst (λ q. IsServed q c.args.event (lists_of c.self.inside.predicates c.pass-in-SignalLeave.new.self))
    c.self.view_is
    (leaving c.self.inside.predicates c.self.inside.links c.args.event c.in-SignalLeave.field-0 c.in-SignalLeave.cond
    c.in-SignalLeave.field-2 c.condition-in-SignalLeave.result c.pass-in-SignalLeave.new.self c.in-SignalLeave.is
    c.condition-in-SignalLeave.ensures c.pass-in-SignalLeave.ensures)

pub returns-then-not-is_stay : goal.returns-then-not-is_stay
returns-then-not-is_stay c =
    let low : c.in-Until.seat < most_seats = subst (λ e. seat_of e < most_seats) c.in-Until.is c.requires.seat in
    subst (λ q. IsServed q c.args.event
    (lists_of (slice_set c.self.inside.predicates c.in-Until.seat c.in-Until.pred)
    c.push-then-not-is_stay.new.self)) c.self.view_is
    (until c.self.inside.predicates c.self.inside.links c.args.event c.in-Until.seat c.in-Until.pred c.in-Until.next
    c.push-then-not-is_stay.new.self c.in-Until.is c.if-not-is_stay.ensures (omega (arith, low, c.self.told))
    (places_none c.in-Until.seat c.self.inside.predicates c.self.inside.links
    ((λ i. in_lists (seat_of (sym c.in-Until.is i)) (c.self.view_is i)) ∙ c.requires.apart))
    c.push-then-not-is_stay.ensures)

pub returns-in-SignalAll : goal.returns-in-SignalAll
returns-in-SignalAll c =
    subst (λ q. IsServed q c.args.event (lists_of c.self.inside.predicates c.pass_all.new.self)) c.self.view_is
    (serving_all c.self.inside.predicates c.self.inside.links c.args.event c.in-SignalAll.field-0 c.in-SignalAll.cond
    c.condition-in-SignalAll.result c.pass_all.new.self c.in-SignalAll.is c.condition-in-SignalAll.ensures
    c.pass_all.ensures)

pub push-requires-in-SignalWait-clause-apart : goal.push-requires-in-SignalWait-clause-apart
push-requires-in-SignalWait-clause-apart c =
    let low =
    subst (λ e. is_condition most_conds (signals_on e) ≡ true) c.in-SignalWait.is c.requires.signals_in_range in
    passed_apart c.in-SignalWait.seat c.in-SignalWait.cond c.condition-in-SignalWait.result c.self.inside.links
    c.pass-in-SignalWait.new.self c.condition-in-SignalWait.ensures (grind (arith, low)) c.pass-in-SignalWait.ensures
    (places_none c.in-SignalWait.seat c.self.inside.predicates c.self.inside.links
    ((λ i. in_lists (seat_of (sym c.in-SignalWait.is i)) (c.self.view_is i)) ∙ c.requires.apart))

pub returns-in-SignalWait : goal.returns-in-SignalWait
returns-in-SignalWait c =
    subst (λ q. IsServed q c.args.event (lists_of c.self.inside.predicates c.push-in-SignalWait.new.self))
    c.self.view_is
    (serving_waiting c.self.inside.predicates c.self.inside.links c.args.event c.in-SignalWait.seat c.in-SignalWait.cond
    c.in-SignalWait.wait_cond c.in-SignalWait.field-3 c.condition-in-SignalWait.result
    c.condition-in-SignalWait-2.result
    c.pass-in-SignalWait.new.self c.push-in-SignalWait.new.self c.in-SignalWait.is c.condition-in-SignalWait.ensures
    c.condition-in-SignalWait-2.ensures c.pass-in-SignalWait.ensures c.push-in-SignalWait.ensures)
