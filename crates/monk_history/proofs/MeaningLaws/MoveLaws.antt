-- Where seats are after one more event, and what is counted
use Rattle.std.proofs.Common.{◌≡◌, ◌≢◌, ℕ, ◌+◌, ◌≤◌, Bool, true, false, cond, ◌&&◌, ◌||◌, not, ◌==◌, Option, Some, None}
use Rattle.std.proofs.Common.{List, [], ◌∷◌, ◌++◌, refl, sym, ap, subst, ◌∙◌, arith}
use Rattle.std.proofs.lemmas.Bool.{false≢true, cases_lt, Decides.nat_tests}
use Rattle.std.specs.{Prelude.is_some, Option.option_map_or}
use Rattle.monk_kinds.specs.declared.mode.Rules.{Rules}
use Rattle.monk_history.proofs.MeaningLaws.{LegalLaws.legal-push, StandingLaws.legal_placed, QueueCounts.times-append}
use Rattle.monk_history.proofs.MeaningLaws.{QueueSeats.times_filter, TestLaws.and_left, TestLaws.and_right}
use Rattle.monk_history.proofs.MeaningLaws.CountLaws.{events_of-push, length-events_of-push, enters_of-push}
use Rattle.monk_history.proofs.MeaningLaws.CountLaws.{granted_of-push}
use Rattle.monk_history.proofs.MeaningLaws.TurnLaws.{turn-push, inside-push}
use Rattle.monk_history.proofs.MeaningLaws.ReleaseLaws.{serves_times, caller_signals}
use Rattle.monk_history.specs.Meaning.{Monitor.Monitor, Legal.IsLegal, Counts.chooses_seat, Counts.grants}
use Rattle.monk_history.specs.Meaning.Reasons.{is_in_turn, IsAllowedIn, IsAllowed}
use Rattle.monk_history.specs.Meaning.Events.{seat_of, next_of, is_stay, is_way_out, via_of, steps_back}
use Rattle.monk_history.specs.Meaning.Choice.{Queues, queues_at, may_choose, may_signal, must_stay}
use Rattle.monk_history.specs.Meaning.Moves.{parks, StandsAfter, CountsAfter}
use Rattle.monk_history.specs.Meaning.Situation.{Situation, situation}
use Rattle.monk_history.specs.Meaning.Standing.{times, has_turn, in_queues, IsPlaced}
use Rattle.monk_history.specs.Meaning.Turn.{turn_by, is_enter_of, is_exit_of, is_inside}
use Rattle.monk_history.specs.declared.event.{Next.Next, Event.Event}

-- what one more event counts
pub counts_after : (h : List Event) (e : Event) → CountsAfter h e
counts_after h e = record {
  events = events_of-push h e;
  spent = length-events_of-push h e;
  enters = enters_of-push h e;
  granted = granted_of-push h e;
  turn = turn-push h e;
}

not_same : (j s : ℕ) → j ≢ s → (s == j) ≡ false
not_same j s n = grind (arith, nat_tests)

-- by an event of another seat this one neither enters nor leaves
not_moved : (i out enter b : Bool) → b ≡ false → ((i && not (out && b)) || (enter && b)) ≡ i
not_moved i out enter b h = grind (arith, nat_tests)

other_inside : (j : ℕ) (e : Event) (i : Bool) → j ≢ seat_of e → ((i && not (is_exit_of j e)) || is_enter_of j e) ≡ i
other_inside j e i n = not_moved i (is_way_out e) (is_some (via_of e)) (seat_of e == j) (not_same j (seat_of e) n)

caller_inside : (n : ℕ) (t : Situation) (e : Event) → IsPlaced n t → is_in_turn t e ≡ true
    → ((t.inside (seat_of e) && not (is_exit_of (seat_of e) e)) || is_enter_of (seat_of e) e) ≡ not (is_way_out e)
caller_inside n t e p h = grind (arith, nat_tests)

other_turn : (t : Situation) (e : Event) (j : ℕ) → j ≢ seat_of e → is_in_turn t e ≡ true → has_turn j t.turn ≡ 0
other_turn t e j h h' = grind (arith, nat_tests)

-- after an event another seat has the turn if it was chosen
turn_grants : (s j : ℕ) (x : Option Next) → j ≢ s → has_turn j (turn_by s x) ≡ cond (chooses_seat j x) 1 0
turn_grants s j x n = grind (arith, nat_tests)

-- a chosen seat is in a queue that is chosen from, and is not the caller if that is the signaller queue
chosen_in : (k : Rules) (q : Queues) (s j : ℕ) (x : Next) (n : ℕ) → may_choose k q s x ≡ true
    → chooses_seat j (Some x) ≡ true
    → (1 ≤ times j q.waiters → 1 ≤ n) → (1 ≤ times j q.signallers → j ≢ s → 1 ≤ n)
    → (1 ≤ times j q.ready → 1 ≤ n) → 1 ≤ n
chosen_in k q s j x n h g w f r = grind (arith, nat_tests)

signalled_in : (k : Rules) (q : Queues) (s j : ℕ) (x : Next) (n : ℕ) → may_signal k q s x ≡ true
    → chooses_seat j (Some x) ≡ true
    → (1 ≤ times j q.waiters → 1 ≤ n) → (1 ≤ times j q.signallers → j ≢ s → 1 ≤ n)
    → (1 ≤ times j q.ready → 1 ≤ n) → 1 ≤ n
signalled_in k q s j x n h g w f r = grind (arith, nat_tests)

in_queue_waiters : (m : Monitor) (t : Situation) (e : Event) (j : ℕ) → IsAllowedIn m t e
    → 1 ≤ times j (queues_at m.object t e).waiters → 1 ≤ in_queues m.conds j t
in_queue_waiters m t e j a h = grind (arith, nat_tests, times-append, serves_times, and_right, and_left)

in_queue_signallers : (m : Monitor) (t : Situation) (e : Event) (j : ℕ)
    → 1 ≤ times j (queues_at m.object t e).signallers → j ≢ seat_of e → 1 ≤ in_queues m.conds j t
in_queue_signallers m t e j h n = grind (arith, nat_tests, caller_signals, times-append, cases_lt)

in_queue_ready : (m : Monitor) (t : Situation) (e : Event) (j : ℕ) → 1 ≤ times j (queues_at m.object t e).ready
    → 1 ≤ in_queues m.conds j t
in_queue_ready m t e j h = omega (arith, h, times_filter m.object t.state t.untils j)

-- a choice to stay names nobody
stay_names : (j : ℕ) (x : Next) → is_stay (Some x) ≡ true → chooses_seat j (Some x) ≡ true → ⊥
stay_names j x h g = grind (arith, nat_tests)

unless : (b x y : Bool) → cond b x y ≡ true → (x ≡ true → ⊥) → y ≡ true
unless b x y h f = grind (arith, nat_tests)

chosen_queued : (m : Monitor) (t : Situation) (e : Event) (j : ℕ) → IsAllowedIn m t e → grants j e ≡ true
    → 1 ≤ in_queues m.conds j t
chosen_queued m t e j a = one (must_stay m.object t e) (is_some (steps_back e)) (next_of e) a.permitted
  where
    one : (stays steps : Bool) (x : Option Next)
        → cond stays (is_stay x)
        (option_map_or (λ n. cond steps (may_signal m.kind (queues_at m.object t e) (seat_of e) n)
        (may_choose m.kind (queues_at m.object t e) (seat_of e) n)) x true) ≡ true
        → chooses_seat j x ≡ true → 1 ≤ in_queues m.conds j t
    one stays steps None h g = absurd (false≢true g)
    one stays true (Some n) h g =
        signalled_in m.kind (queues_at m.object t e) (seat_of e) j n (in_queues m.conds j t)
        (unless stays (is_stay (Some n)) _ h (λ y. stay_names j n y g)) g
        (in_queue_waiters m t e j a) (in_queue_signallers m t e j) (in_queue_ready m t e j)
    one stays false (Some n) h g =
        chosen_in m.kind (queues_at m.object t e) (seat_of e) j n (in_queues m.conds j t)
        (unless stays (is_stay (Some n)) _ h (λ y. stay_names j n y g)) g
        (in_queue_waiters m t e j a) (in_queue_signallers m t e j) (in_queue_ready m t e j)

-- the seat of an allowed event is in no queue
pub caller_unqueued : (m : Monitor) (t : Situation) (e : Event) → IsPlaced m.conds t → IsAllowedIn m t e
    → in_queues m.conds (seat_of e) t ≡ 0
caller_unqueued m t e p a = grind (arith, nat_tests)

at_most : (b : Bool) → ◌≤◌ (cond b 1 0) 1
at_most b = grind (arith, nat_tests)

-- no seat is in more than one queue
pub queued_once : (m : Monitor) (h : List Event) → IsLegal m h → (s : ℕ) → in_queues m.conds s (situation m h) ≤ 1
queued_once m h l s = omega (arith, legal_placed m h l s, at_most (is_inside s h))

not_caller : (m : Monitor) (t : Situation) (e : Event) (j : ℕ) → IsPlaced m.conds t → IsAllowedIn m t e
    → grants j e ≡ true → j ≢ seat_of e
not_caller m t e j p a g d =
    let q = chosen_queued m t e j a g in
    let z : in_queues m.conds j t ≡ 0 = subst (λ x. in_queues m.conds x t ≡ 0) (sym d) (caller_unqueued m t e p a) in
    absurd (omega (arith, q, z))

none_or : (b : Bool) → (b ≡ true → ⊥) → b ≡ false
none_or b f = grind (arith, nat_tests)

-- whether an event lets its seat go on
abbrev goes_on : Option Next → Bool
goes_on None = true
goes_on (Some x) = is_stay (Some x)

keeps_turn : (s : ℕ) (x : Option Next) → chooses_seat s x ≡ false → has_turn s (turn_by s x) ≡ cond (goes_on x) 1 0
keeps_turn s x n = grind (arith, nat_tests)

parks_by : (m : Monitor) (t : Situation) (e : Event) (n : ℕ) → IsAllowedIn m t e
    → n + cond (goes_on (next_of e)) 1 0 ≡ cond (not (is_way_out e)) 1 0 → n ≡ cond (parks e) 1 0
parks_by m t e n a h = grind (arith, nat_tests)

not_out : (b : Bool) → ◌≡◌ {A = ℕ} (cond (not b) 1 0) (cond b 0 1)
not_out b = grind (arith, nat_tests)

-- where seats are after one more event
pub stands_after : (m : Monitor) (h : List Event) (e : Event) → IsLegal m h → IsAllowed m h e
    → StandsAfter m (situation m h) e (situation m (h ++ e ∷ []))
stands_after m h e l a =
    let t = situation m h in
    let u = situation m (h ++ e ∷ []) in
    let p = legal_placed m h l in
    let p2 = legal_placed m (h ++ e ∷ []) (legal-push m h e l a) in
    let self = seat_of e in
    let own : is_inside self (h ++ e ∷ []) ≡ not (is_way_out e) = inside-push self h e
    ∙ caller_inside m.conds t e p a.in_turn in
    let owned : ◌≡◌ {A = ℕ} (cond (is_inside self (h ++ e ∷ [])) 1 0) (cond (not (is_way_out e)) 1 0) =
    ap (λ b. cond b 1 0) own in
    let kept : has_turn self u.turn ≡ cond (goes_on (next_of e)) 1 0 =
    ap (has_turn self) (turn-push h e)
    ∙ keeps_turn self (next_of e) (none_or (chooses_seat self (next_of e)) (λ g. not_caller m t e self p a g refl))
    in
    let same =
    λ (j : ℕ) (n : j ≢ self). ap (λ b. cond {A = ℕ} b 1 0)
    (inside-push j h e ∙ other_inside j e (is_inside j h) n) in
    let turns = λ (j : ℕ) (n : j ≢ self). ap (has_turn j) (turn-push h e) ∙ turn_grants self j (next_of e) n in
    let named = λ (j : ℕ) (g : grants j e ≡ true). ap (λ b. cond {A = ℕ} b 1 0) g in
    record {
      apart = caller_unqueued m t e p a;
      caller_queued = parks_by m t e (in_queues m.conds self u) a (omega (arith, p2 self, owned, kept));
      caller_stands = omega (arith, p2 self, owned, not_out (is_way_out e));
      others_stand = λ j n. omega (arith, p j, p2 j, same j n);
      others_queued = λ j n. omega (arith, p j, p2 j, same j n, turns j n, other_turn t e j n a.in_turn);
      chosen_other = λ j g. not_caller m t e j p a g;
      chosen_before = λ j g. omega (arith, chosen_queued m t e j a g, queued_once m h l j);
      chosen_after = λ j g. let n = not_caller m t e j p a g in
          omega (
            arith,
            p j,
            p2 j,
            same j n,
            turns j n,
            other_turn t e j n a.in_turn,
            named j g,
            chosen_queued m t e j a g,
            queued_once m h l j,
          );
    }
