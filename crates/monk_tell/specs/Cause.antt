-- Why an event is not allowed: for each reason the sentence that says it, by the state of the monitor
use Rattle.std.specs.Prelude.{ℕ, ◌==◌, nat_le, nat_lt, Bool, false, Option, Some, None, List, slice_get}
use Rattle.std.specs.Prelude.{map, option_map, if◌then◌else◌, is_some}
use Rattle.std.specs.{List.position, List.range_with_len, Option.option_map_or}
use Rattle.monk_kinds.specs.declared.{mode.Rules.Rules, name.KindName.KindName}
use Rattle.monk_object.specs.Object.{Object}
use Rattle.monk_history.specs.declared.event.From3.TheVariants as from
use Rattle.monk_history.specs.declared.event.Next.TheVariants as next
use Rattle.monk_history.specs.declared.event.Turn.TheVariants as turn
use Rattle.monk_history.specs.Meaning.{Choice.Queues, Choice.queues_at, Choice.must_stay, Situation.Situation}
use Rattle.monk_history.specs.Meaning.Events.{seat_of, next_of, via_of, answered_act, awaited_predicate, steps_back}
use Rattle.monk_history.specs.Meaning.Events.{has_conditions}
use Rattle.monk_history.specs.declared.event.{From3.From3, Next.Next, Turn.Turn}
use Rattle.monk_history.specs.declared.event.Via.{Via, TheVariants.Free, TheVariants.Handed}
use Rattle.monk_history.specs.declared.event.Event.{Event}
use Rattle.monk_history.specs.declared.event.Event.TheVariants.{Enter, Act, Leave, Wait, Signal, SignalLeave, Until}
use Rattle.monk_history.specs.declared.event.Event.TheVariants.{Resume, SignalAll, SignalWait}
use Rattle.monk_audit.specs.Replay.{has}
use Rattle.monk_tell.specs.declared.why.out_of_turn.OutOfTurn.TheVariants as away
use Rattle.monk_tell.specs.declared.why.staying.Staying.TheVariants as stay
use Rattle.monk_tell.specs.declared.why.precedence.Precedence.TheVariants as order
use Rattle.monk_tell.specs.declared.why.{out_of_turn.OutOfTurn.OutOfTurn, staying.Staying.Staying}
use Rattle.monk_tell.specs.declared.why.Why.{Why}
use Rattle.monk_tell.specs.declared.why.Why.TheVariants.{NoSeat, NoCondition, NoOperation, NoPredicate, Call, NoUntils}
use Rattle.monk_tell.specs.declared.why.Why.TheVariants.{Turn as Away, Reply, Stay, Order}
use Rattle.monk_tell.specs.declared.lines.Firsts.{Firsts}

-- ---- 1. a number that is out of range: the first of its seats, else a number of the call itself

-- the number of a call that is out of range
abbrev pub call_beyond : ℕ → ℕ → Event → Why
call_beyond seats conds (Enter s via) = NoSeat s seats
call_beyond seats conds (Act s op r) = NoOperation op.code
call_beyond seats conds (Leave s x) = NoSeat s seats
call_beyond seats conds (Wait s c x) = NoCondition c conds
call_beyond seats conds (Signal s c x) = NoCondition c conds
call_beyond seats conds (SignalLeave s c x) = NoCondition c conds
call_beyond seats conds (Until s p x) = NoPredicate p
call_beyond seats conds (Resume s q) = NoSeat s seats
call_beyond seats conds (SignalAll s c) = NoCondition c conds
call_beyond seats conds (SignalWait s c d x) = NoCondition (if nat_le conds c then c else d) conds

-- that seat if it is out of range, else the other number
abbrev pub seat_beyond : ℕ → Why → ℕ → Why
seat_beyond seats other s = if nat_le seats s then NoSeat s seats else other

-- the chosen seat if it is out of range, else the other number
abbrev pub chosen_beyond : ℕ → Why → Option Next → Why
chosen_beyond seats other None = other
chosen_beyond seats other (Some next.Stay) = other
chosen_beyond seats other (Some next.Entry) = other
chosen_beyond seats other (Some (next.Waiter j)) = seat_beyond seats other j
chosen_beyond seats other (Some (next.Signaller j)) = seat_beyond seats other j
chosen_beyond seats other (Some (next.Until j)) = seat_beyond seats other j

-- the first number of an event that is out of range
abbrev pub number_beyond : ℕ → ℕ → Event → Why
number_beyond seats conds e =
    seat_beyond seats (chosen_beyond seats (call_beyond seats conds e) (next_of e)) (seat_of e)

-- ---- 3. whose turn it is, if not that of seat s

-- the queues of the conditions below that number
abbrev pub conditions_below : (ℕ → List ℕ) → ℕ → List (List ℕ)
conditions_below queue conds = map queue (range_with_len 0 conds)

-- the number of the first of these queues of conditions in which the seat waits
abbrev pub waits_at : List (List ℕ) → ℕ → Option ℕ
waits_at conditions s = position (has s) conditions

-- why it isn't the seat's turn
abbrev pub other_turn : Turn → ℕ → OutOfTurn
other_turn turn.Open s = away.Open s
other_turn (turn.Due j q) s = if j == s then away.Resumes s q else away.Due s j q
other_turn (turn.Owned j) s = if j == s then away.Already s else away.Active s j

-- it waits on a condition, or it is another's turn
abbrev pub out_of_turn : Option ℕ → Turn → ℕ → OutOfTurn
out_of_turn waits t s = option_map_or (λ c. away.Unsignalled s c) waits (other_turn t s)

-- ---- 4. why seat s may not enter

-- why a seat may not come in that way
abbrev pub shut_door : Via → ℕ → OutOfTurn
shut_door Free s = away.NotFree s
shut_door Handed s = away.FirstOfAll s

-- why a seat may not enter
abbrev pub no_entry : Bool → Option Via → ℕ → OutOfTurn
no_entry inside via s = if inside then away.Inside s else option_map_or (λ v. shut_door v s) via (away.NotFree s)

-- ---- 5. the object's own reply, and the event's

-- the object's own reply, if the event is an act
abbrev pub own_reply : Object → List ℕ → Event → Option ℕ
own_reply o d e = option_map (λ act. o.reply d act.op) (answered_act e)

-- why the reply is wrong, by the object's own
abbrev pub other_reply : Option ℕ → Event → Why
other_reply own e =
    option_map_or (λ act. option_map_or (λ right. Reply right act.reply) own (Stay (stay.GivesUp (seat_of e))))
    (answered_act e)
    (Stay (stay.GivesUp (seat_of e)))

-- ---- 6. a choice that is not permitted

-- the first seats of the queues
abbrev pub firsts_of : Queues → Firsts
firsts_of q =
    record { waiter = slice_get q.waiters 0; signaller = slice_get q.signallers 0; ready = slice_get q.ready 0 }

-- the event has to stay
abbrev pub has_to_stay : Event → Staying
has_to_stay e =
    option_map_or (λ c. stay.NobodyWaits c (seat_of e)) (steps_back e)
    (option_map_or (λ p. stay.HoldsAlready p (seat_of e)) (awaited_predicate e) (stay.GivesUp (seat_of e)))

-- it may not stay: waiters go first, another signaller goes first, or its call gives the monitor up
abbrev pub signaller_yields : KindName → Rules → Option ℕ → ℕ → Staying
signaller_yields kind k first s =
    if nat_lt k.signaller k.waiter then stay.MustYield s kind
    else option_map_or (λ j. stay.StepsBehind s j) first (stay.GivesUp s)

-- why the caller may not stay active
abbrev pub may_not_stay : KindName → Rules → Firsts → Event → Staying
may_not_stay kind k f e =
    if is_some (steps_back e) then signaller_yields kind k f.signaller (seat_of e) else stay.GivesUp (seat_of e)

-- entry may not be chosen: the first of those above it
abbrev pub may_not_admit : KindName → Rules → ℕ → Option ℕ → Option ℕ → Option ℕ → Why
may_not_admit kind k s (Some w) (Some j) ready =
    if nat_lt k.waiter k.signaller
    then (if j == s then Stay (stay.MustStay s kind) else Order (order.SignallersBeforeEntry j kind))
    else Order (order.WaitersBeforeEntry w kind)
may_not_admit kind k s (Some w) None ready = Order (order.WaitersBeforeEntry w kind)
may_not_admit kind k s None (Some j) ready = Order (order.SignallersBeforeEntry j kind)
may_not_admit kind k s None None (Some r) = Order (order.ReadyBeforeEntry r kind)
may_not_admit kind k s None None None = Stay (stay.GivesUp s)

-- whether that seat is the first
abbrev pub is_first : ℕ → Option ℕ → Bool
is_first j first = option_map_or (λ i. i == j) first false

-- it is not the first of that queue, or the queue is empty
abbrev pub behind_first : Option ℕ → ℕ → From3 → Why
behind_first first j queue = option_map_or (λ i. Order (order.NotFirst j queue)) first (Order (order.NobodyIn queue))

-- if a seat was chosen as a waiter and isn't in the waiter queue, the condition on which it waits
abbrev pub still_waits : List (List ℕ) → List ℕ → Option Next → Option ℕ
still_waits conditions waiters None = None
still_waits conditions waiters (Some next.Stay) = None
still_waits conditions waiters (Some next.Entry) = None
still_waits conditions waiters (Some (next.Waiter j)) = if has j waiters then None else waits_at conditions j
still_waits conditions waiters (Some (next.Signaller j)) = None
still_waits conditions waiters (Some (next.Until j)) = None

-- that waiter may not be chosen: nobody has signalled it, it is not the first, or a signaller goes before it
abbrev pub may_not_wake : KindName → Firsts → Option ℕ → ℕ → ℕ → Why
may_not_wake kind f waits s j =
    if is_first j f.waiter
    then option_map_or (λ i. if i == s then Stay (stay.MustStay s kind)
    else Order (order.SignallersFirst i kind)) f.signaller
    (Stay (stay.GivesUp s))
    else option_map_or (λ c. Away (away.Unsignalled j c)) waits (behind_first f.waiter j from.Waiter)

-- why the first signaller may not be chosen if no waiter goes before it: it may be the caller
abbrev pub caller_or_none : ℕ → ℕ → Why
caller_or_none s j = if j == s then Stay (stay.OwnSignal s) else Stay (stay.GivesUp s)

-- why that seat may not go on from the signaller queue: it isn't first, a waiter goes before it, or it is the caller
abbrev pub may_not_recall : KindName → Rules → Firsts → ℕ → ℕ → Why
may_not_recall kind k f s j =
    if is_first j f.signaller
    then option_map_or (λ w. if nat_lt k.signaller k.waiter then Order (order.WaitersFirst w kind)
    else caller_or_none s j) f.waiter
    (caller_or_none s j)
    else behind_first f.signaller j from.Signaller

-- that seat may not be chosen as one whose predicate holds: it is not the first of them, or there is none
abbrev pub may_not_continue : KindName → Rules → Option ℕ → ℕ → Why
may_not_continue kind k first j =
    if has_conditions k.mode then NoUntils kind
    else option_map_or (λ i. Order (order.NotReady j)) first (Order order.NobodyReady)

-- why that choice may not be made
abbrev pub may_not_choose : KindName → Rules → Firsts → Option ℕ → Event → Option Next → Why
may_not_choose kind k f waits e None = Stay (may_not_stay kind k f e)
may_not_choose kind k f waits e (Some next.Stay) = Stay (may_not_stay kind k f e)
may_not_choose kind k f waits e (Some next.Entry) = may_not_admit kind k (seat_of e) f.waiter f.signaller f.ready
may_not_choose kind k f waits e (Some (next.Waiter j)) = may_not_wake kind f waits (seat_of e) j
may_not_choose kind k f waits e (Some (next.Signaller j)) = may_not_recall kind k f (seat_of e) j
may_not_choose kind k f waits e (Some (next.Until j)) = may_not_continue kind k f.ready j

-- why the choice of the event is wrong
abbrev pub other_choice : KindName → Rules → Firsts → Option ℕ → Bool → Event → Why
other_choice kind k f waits stays e =
    if stays then Stay (has_to_stay e) else may_not_choose kind k f waits e (next_of e)

-- why the event may not choose what it chose, in this situation
abbrev pub choice_cause : KindName → Rules → ℕ → Object → Situation → Event → Why
choice_cause kind k conds o t e =
    let q = queues_at o t e in
    let waits = still_waits (conditions_below t.condition conds) q.waiters (next_of e) in
    other_choice kind k (firsts_of q) waits (must_stay o t e) e

-- ---- one of the first four

-- what is wrong with an event for one of the first four reasons
abbrev pub early_cause : KindName → ℕ → ℕ → Situation → ℕ → Event → Why
early_cause kind seats conds t reason e =
    if reason == 1 then number_beyond seats conds e
    else if reason == 2 then Call kind
    else if reason == 3
    then Away (out_of_turn (waits_at (conditions_below t.condition conds) (seat_of e)) t.turn (seat_of e))
    else Away (no_entry (t.inside (seat_of e)) (via_of e) (seat_of e))

-- ---- all

-- why e is not allowed in this situation, if that is the first reason against it
abbrev pub cause : KindName → Rules → ℕ → ℕ → Object → Situation → ℕ → Event → Why
cause kind k seats conds o t reason e =
    if reason == 6 then choice_cause kind k conds o t e
    else if reason == 5 then other_reply (own_reply o t.state e) e
    else early_cause kind seats conds t reason e
