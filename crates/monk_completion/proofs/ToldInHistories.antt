-- In a legal history, the line of the event after a release shows what the release chose
use Rattle.std.proofs.Common.{◌≡◌, ℕ, ◌≤◌, Bool, true, false, cond, List, [], ◌∷◌, ◌++◌, drop, Option, Some, refl, ap}
use Rattle.std.proofs.Common.{subst, ◌∙◌, arith}
use Rattle.std.{specs.Option.option_map_or, specs.Prelude.is_some, proofs.lemmas.Bool.Decides.nat_tests}
use Rattle.monk_kinds.specs.declared.mode.Rules.{Rules}
use Rattle.monk_object.specs.Object.{Object}
use Rattle.monk_history.specs.declared.event.Event.TheVariants as event
use Rattle.monk_history.specs.declared.event.From3.TheVariants as from
use Rattle.monk_history.specs.declared.event.Next.TheVariants as next
use Rattle.monk_history.proofs.PublicLaws.Meaning.{legal_front, legal_last, legal_placed, legal_situation-push}
use Rattle.monk_history.specs.Meaning.{Legal.IsLegal, Monitor.Monitor, Reasons.fits_turn, Signallers.takes_signaller}
use Rattle.monk_history.specs.Meaning.{Situation.Situation, Situation.situation, Step.after, Turn.turn_by}
use Rattle.monk_history.specs.Meaning.Events.{next_of, seat_of, steps_back, is_stay, is_waiter}
use Rattle.monk_history.specs.Meaning.Choice.{Queues, queues_at, is_front, may_choose, may_signal, must_stay}
use Rattle.monk_history.specs.Meaning.Standing.{has_turn, in_queues, standing, times}
use Rattle.monk_history.specs.declared.event.{Event.Event, From3.From3, Next.Next, Turn.TheVariants.Due}
use Rattle.monk_completion.specs.{Told.chosen_from, Told.told_next, Erasure.erasure_of}
use Rattle.monk_logs.specs.declared.text.line.LogLine.{LogLine}
use Rattle.monk_logs.specs.declared.text.line.LogLine.TheVariants.{Enter, Resume, Leave, Wait, Signal, Broadcast, Until}
use Rattle.monk_logs.specs.declared.text.line.LogLine.TheVariants.{Act}

-- ---- the first line of an event

abbrev pub first_line : Event → LogLine
first_line (event.Enter s via) = Enter s
first_line (event.Act s op r) = Act s op r
first_line (event.Leave s x) = Leave s
first_line (event.Wait s c x) = Wait s c
first_line (event.Signal s c x) = Signal s c
first_line (event.SignalLeave s c x) = Signal s c
first_line (event.Until s p x) = Until s p
first_line (event.Resume s q) = Resume s
first_line (event.SignalAll s c) = Broadcast s c
first_line (event.SignalWait s c d x) = Signal s c

-- and those after it
abbrev pub later_lines : Event → List LogLine
later_lines e = drop 1 (erasure_of e)

pub erased_lines : (e : Event) → erasure_of e ≡ first_line e ∷ later_lines e
erased_lines e = grind arith

-- ---- what the turn says about the choice

-- the queues show from which of them the seat was chosen
abbrev pub IsChosen : Queues → Next → Type 0
IsChosen q next.Stay = Unit {0}
IsChosen q next.Entry = Unit {0}
IsChosen q (next.Waiter j) = chosen_from q j ≡ next.Waiter j
IsChosen q (next.Signaller j) = chosen_from q j ≡ next.Signaller j
IsChosen q (next.Until j) = chosen_from q j ≡ next.Until j

-- the line of the event that fits the turn shows what the release of seat s chose
pub line_tells : (q : Queues) (s : ℕ) (x : Next) (f : Event) → fits_turn (turn_by s (Some x)) f ≡ true → IsChosen q x
    → told_next q (first_line f) ≡ x
line_tells q s x f h h2 = grind arith

-- ---- the chosen seat is the front of its queue, and of no other

-- what is permitted, by the choice
abbrev permits : Rules → Object → Situation → Event → Option Next → Bool
permits k o t e n =
    cond (must_stay o t e) (is_stay n)
    (option_map_or
    (λ x. cond (is_some (steps_back e)) (may_signal k (queues_at o t e) (seat_of e) x)
    (may_choose k (queues_at o t e) (seat_of e) x))
    n true)

waiter_front : (k : Rules) (o : Object) (t : Situation) (e : Event) (j : ℕ)
    → permits k o t e (Some (next.Waiter j)) ≡ true
    → is_front j (queues_at o t e).waiters ≡ true
waiter_front k o t e j h = grind arith

signaller_front : (k : Rules) (o : Object) (t : Situation) (e : Event) (j : ℕ)
    → permits k o t e (Some (next.Signaller j)) ≡ true → is_front j (queues_at o t e).signallers ≡ true
signaller_front k o t e j h = grind arith

no_front : (j : ℕ) (xs : List ℕ) → times j xs ≡ 0 → is_front j xs ≡ false
no_front j xs h = grind arith

at_most_one : (b : Bool) (n : ℕ) → n ≡ cond b 1 0 → n ≤ 1
at_most_one b n h = grind arith

turn_counts : (j : ℕ) (from : From3) → has_turn j (Due j from) ≡ 1
turn_counts j from = grind arith

-- the seat whose turn is due is in no queue
due_is_nowhere : (m : Monitor) (g : List Event) (e : Event) (j : ℕ) (from : From3) → IsLegal m (g ++ e ∷ [])
    → turn_by (seat_of e) (next_of e) ≡ Due j from → in_queues m.conds j (after m.object (situation m g) e) ≡ 0
due_is_nowhere m g e j from legal is =
    let t = situation m g in
    let u = after m.object t e in
    let placed : standing m.conds j u ≡ cond (u.inside j) 1 0 =
    subst (λ (v : Situation). standing m.conds j v ≡ cond (v.inside j) 1 0)
    (legal_situation-push m g e (legal_front m g (e ∷ []) legal)) (legal_placed m (g ++ e ∷ []) legal j) in
    let counted : has_turn j u.turn ≡ 1 = ap (has_turn j) is ∙ turn_counts j from in
    omega (arith, at_most_one (u.inside j) (standing m.conds j u) placed, counted)

no_signaller : (t : Situation) (e : Event) (j : ℕ) → next_of e ≡ Some (next.Until j)
    → takes_signaller t.condition e ≡ false
no_signaller t e j h = grind arith

pub chosen : (m : Monitor) (g : List Event) (e : Event) (x : Next) → next_of e ≡ Some x → IsLegal m (g ++ e ∷ [])
    → IsChosen (queues_at m.object (situation m g) e) x
chosen m g e next.Stay is legal = tt
chosen m g e next.Entry is legal = tt
chosen m g e (next.Waiter j) is legal =
    let t = situation m g in
    let front = waiter_front m.kind m.object t e j
    (subst (λ (n : Option Next). permits m.kind m.object t e n ≡ true) is (legal_last m g e legal).permitted) in
    rw (front) refl
chosen m g e (next.Signaller j) is legal =
    let t = situation m g in
    let q = queues_at m.object t e in
    let front = signaller_front m.kind m.object t e j
    (subst (λ (n : Option Next). permits m.kind m.object t e n ≡ true) is (legal_last m g e legal).permitted) in
    let nowhere = due_is_nowhere m g e j from.Signaller legal (ap (turn_by (seat_of e)) is) in
    let none : times j (drop (cond (is_waiter (next_of e)) 1 0) q.waiters) ≡ 0 = omega (arith, nowhere) in
    let not_waiting : times j q.waiters ≡ 0 = grind (arith, nat_tests) in
    rw (no_front j q.waiters not_waiting, front) refl
chosen m g e (next.Until j) is legal =
    let t = situation m g in
    let q = queues_at m.object t e in
    let nowhere = due_is_nowhere m g e j from.Until legal (ap (turn_by (seat_of e)) is) in
    let none : times j (drop (cond (is_waiter (next_of e)) 1 0) q.waiters) ≡ 0 = omega (arith, nowhere) in
    let not_waiting : times j q.waiters ≡ 0 = grind (arith, nat_tests) in
    let none_there : times j (drop (cond (takes_signaller t.condition e) 1 0) q.signallers) ≡ 0 =
    omega (arith, nowhere) in
    let not_taken : takes_signaller t.condition e ≡ false = no_signaller t e j is in
    let not_signalling : times j q.signallers ≡ 0 = grind (arith, nat_tests) in
    rw (no_front j q.waiters not_waiting, no_front j q.signallers not_signalling) refl
