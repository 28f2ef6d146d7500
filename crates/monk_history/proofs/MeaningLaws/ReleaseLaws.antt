-- A call that may be made, with the choice by the wish rules, is allowed; and which seats are in the queues
use Rattle.std.proofs.Common.{◌≡◌, ℕ, ◌+◌, ◌<◌, ◌≤◌, Bool, true, false, cond, ◌&&◌, Option, Some, None}
use Rattle.std.proofs.Common.{List, [], ◌∷◌, ◌++◌, take, refl, ap, arith, map, rules}
use Rattle.std.proofs.lemmas.Bool.{cases_lt, Decides.nat_tests}
use Rattle.std.specs.{Prelude.nat_lt, List.list_all}
use Rattle.monk_kinds.specs.{declared.mode.Rules.Rules, declared.mode.Pick.Pick, Kind.IsKind}
use Rattle.monk_history.proofs.MeaningLaws.{TestLaws.and_left, TestLaws.and_right, StandingLaws.legal_placed}
use Rattle.monk_history.proofs.MeaningLaws.QueueCounts.{times-append, times_served}
use Rattle.monk_history.proofs.MeaningLaws.QueueSeats.{IsSorted, signal_conditions, legal_sorted, sorted_queues}
use Rattle.monk_history.proofs.MeaningLaws.QueueSeats.{IsSeated, lt_of, lt_to, seat_in_range, legal_seated, front_times}
use Rattle.monk_history.proofs.MeaningLaws.QueueSeats.{front_absent, times_le_conditions, some_true, times_filter}
use Rattle.monk_history.proofs.MeaningLaws.WishLaws.{choice_permitted, signal_permitted}
use Rattle.monk_history.specs.Meaning.{Monitor.Monitor, Waiters.served_at, Waiters.serves, Signallers.is_empty}
use Rattle.monk_history.specs.Meaning.{Signallers.signals, Wish.choice_by, Legal.IsLegal, Situation.Situation}
use Rattle.monk_history.specs.Meaning.{Situation.situation, Release.MayCallIn, Release.with_next, Release.choice_of}
use Rattle.monk_history.specs.Meaning.Events.{seat_of, named_seat, signals_on, is_stay}
use Rattle.monk_history.specs.Meaning.Choice.{Queues, queues_at, may_choose, may_signal}
use Rattle.monk_history.specs.Meaning.Reasons.{is_in_range, is_condition, is_in_turn, is_in_place, is_right_reply}
use Rattle.monk_history.specs.Meaning.Reasons.{IsAllowedIn}
use Rattle.monk_history.specs.Meaning.Standing.{times, times_in_conditions, IsPlaced}
use Rattle.monk_history.specs.declared.event.Next.{Next}
use Rattle.monk_history.specs.declared.event.Next.TheVariants.{Stay, Entry, Waiter, Signaller, Until as UntilSeat}
use Rattle.monk_history.specs.declared.event.Event.{Event}
use Rattle.monk_history.specs.declared.event.Event.TheVariants.{Enter, Act, Leave, Wait, Signal, SignalLeave, Until}
use Rattle.monk_history.specs.declared.event.Event.TheVariants.{Resume, SignalAll, SignalWait}

-- each number in the queues of a release is that of a seat
pub record IsWithin (seats : ℕ) (q : Queues) : Type 0 where
  pub waiters : (j : ℕ) → 1 ≤ times j q.waiters → j < seats
  pub signallers : (j : ℕ) → 1 ≤ times j q.signallers → j < seats
  pub ready : (j : ℕ) → 1 ≤ times j q.ready → j < seats

named_one : (seats j : ℕ) → j < seats → list_all (λ s. nat_lt s seats) (j ∷ []) ≡ true
named_one seats j l = ap (λ b. b && true) (lt_to j seats l)

named_chosen : (k : Rules) (q : Queues) (s seats : ℕ) (x : Next) → IsWithin seats q → may_choose k q s x ≡ true
    → list_all (λ j. nat_lt j seats) (named_seat (Some x)) ≡ true
named_chosen k q s seats Stay w h = refl
named_chosen k q s seats Entry w h = refl
named_chosen k q s seats (Waiter j) w h = named_one seats j (w.waiters j (front_times j q.waiters (and_left _ _ h)))
named_chosen k q s seats (Signaller j) w h =
    named_one seats j (w.signallers j (front_times j q.signallers (and_left _ _ (and_left _ _ h))))
named_chosen k q s seats (UntilSeat j) w h = named_one seats j (w.ready j (front_times j q.ready (and_right _ _ h)))

named_signalled : (k : Rules) (q : Queues) (s seats : ℕ) (x : Next) → IsWithin seats q → may_signal k q s x ≡ true
    → list_all (λ j. nat_lt j seats) (named_seat (Some x)) ≡ true
named_signalled k q s seats Stay w h = refl
named_signalled k q s seats Entry w h = refl
named_signalled k q s seats (Waiter j) w h = named_chosen k q s seats (Waiter j) w h
named_signalled k q s seats (Signaller j) w h = named_chosen k q s seats (Signaller j) w h
named_signalled k q s seats (UntilSeat j) w h = named_chosen k q s seats (UntilSeat j) w h

and_named : (a y x b c d : Bool) → (a && y && b && c && d) ≡ true → x ≡ true → (a && x && b && c && d) ≡ true
and_named a y x b c d h k = grind (arith, nat_tests)

-- a seat in no queue
pub record IsApart (conds j : ℕ) (t : Situation) : Type 0 where
  pub conditions : times_in_conditions conds j t.condition ≡ 0
  pub waiters : times j t.waiters ≡ 0
  pub signallers : times j t.signallers ≡ 0
  pub untils : times j (map (λ w. w.0) t.untils) ≡ 0

-- the seat of an event that may be called is in no queue
pub caller_apart : (m : Monitor) (t : Situation) (e : Event) → IsPlaced m.conds t → is_in_turn t e ≡ true
    → is_in_place m.object t e ≡ true → IsApart m.conds (seat_of e) t
caller_apart m t e h h' h'' = grind (arith, nat_tests)

-- a number in a queue of a release is that of a seat
pub serves_times : (n : ℕ) (q : ℕ → List ℕ) (e : Event) (j : ℕ) → is_condition n (signals_on e) ≡ true
    → times j (serves q e) ≤ times_in_conditions n j q
serves_times n q e j = by_condition (signals_on e)
  where
    by_condition : (o : Option ℕ) → is_condition n o ≡ true → times j (served_at q o e) ≤ times_in_conditions n j q
    by_condition None h = omega arith
    by_condition (Some c) h = omega (arith, times_served j e (q c), times_le_conditions n j c q (lt_of c n h))

pub caller_signals : (q : ℕ → List ℕ) (e : Event) (j : ℕ) → 1 ≤ times j (signals q e) → seat_of e ≡ j
caller_signals q e j h = grind (arith, nat_tests)

within_queues : (m : Monitor) (t : Situation) (e : Event) → IsPlaced m.conds t → IsSeated m.seats t
    → is_in_range m.seats m.conds m.object.codes m.object.predicates e ≡ true
    → IsWithin m.seats (queues_at m.object t e)
within_queues m t e p s r =
    grind (
      arith,
      nat_tests,
      some_true,
      times-append,
      serves_times,
      and_right,
      and_left,
      caller_signals,
      seat_in_range,
      cases_lt,
      times_filter,
    )

-- what is known of the situation after a legal history
pub record IsInOrder (m : Monitor) (t : Situation) : Type 0 where
  pub kind : IsKind m.kind
  pub sorted : IsSorted m.kind t
  pub placed : IsPlaced m.conds t
  pub seated : IsSeated m.seats t

pub legal_order : (m : Monitor) (h : List Event) → IsKind m.kind → IsLegal m h → IsInOrder m (situation m h)
legal_order m h k l = search (rules, legal_sorted, legal_placed, legal_seated)

-- the choice of a release that must choose is permitted
must_choose : (m : Monitor) (t : Situation) (e : Event) (known : Bool) (wish : Pick) → IsInOrder m t → MayCallIn m t e
    → signals t.condition e ≡ []
    → may_choose m.kind (queues_at m.object t e) (seat_of e)
    (choice_by m.kind (queues_at m.object t e) (seat_of e) known wish) ≡ true
must_choose m t e known wish i c z =
    grind (arith, nat_tests, choice_permitted, sorted_queues, front_absent, times-append, caller_apart)

-- the choice of a release that must choose names seats
must_name : (m : Monitor) (t : Situation) (e : Event) (known : Bool) (wish : Pick) → IsInOrder m t → MayCallIn m t e
    → signals t.condition e ≡ []
    → list_all (λ j. nat_lt j m.seats)
    (named_seat (Some (choice_by m.kind (queues_at m.object t e) (seat_of e) known wish))) ≡ true
must_name m t e known wish i c z =
    named_chosen m.kind (queues_at m.object t e) (seat_of e) m.seats _
    (within_queues m t e i.placed i.seated c.in_range) (must_choose m t e known wish i c z)

some_wait : (ws qs : List ℕ) → is_empty qs ≡ false → is_empty (ws ++ take 1 qs) ≡ false
some_wait [] [] h = h
some_wait [] (q ∷ qs) h = refl
some_wait (w ∷ ws) qs h = refl

served_choice : (m : Monitor) (t : Situation) (s c : ℕ) (y : Next) (known : Bool) (wish : Pick) → IsInOrder m t
    → MayCallIn m t (Signal s c y) → is_empty (t.condition c) ≡ false
    → may_signal m.kind (queues_at m.object t (Signal s c y)) s
    (choice_by m.kind (queues_at m.object t (Signal s c y)) s known wish) ≡ true
served_choice m t s c y known wish i a z =
    grind (arith, nat_tests, signal_permitted, sorted_queues, signal_conditions, some_wait)

stay_or : (f : Next → Bool) (b : Bool) (x : Next) → (b ≡ false → f x ≡ true)
    → cond b (is_stay (Some (cond b Stay x))) (f (cond b Stay x)) ≡ true
stay_or f b x g = grind (arith, nat_tests)

named_or : (seats : ℕ) (b : Bool) (x : Next) → (b ≡ false → list_all (λ j. nat_lt j seats) (named_seat (Some x)) ≡ true)
    → list_all (λ j. nat_lt j seats) (named_seat (Some (cond b Stay x))) ≡ true
named_or seats b x g = grind (arith, nat_tests)

-- a call that may be made is allowed with the choice by the wish rules
pub chosen_allowed : (m : Monitor) (t : Situation) (e : Event) (known : Bool) (wish : Pick) → IsInOrder m t
    → MayCallIn m t e → is_right_reply m.object t.state e ≡ true
    → IsAllowedIn m t (with_next (choice_of m.kind m.object t e known wish) e)
chosen_allowed m t (Enter s via) known wish i c r = grind (arith, nat_tests)
chosen_allowed m t (Act s op y) known wish i c r = grind (arith, nat_tests)
chosen_allowed m t (Resume s q) known wish i c r = grind (arith, nat_tests)
chosen_allowed m t (Leave s y) known wish i c r = record {
  in_range = and_named (nat_lt s m.seats) _ _ _ _ _ c.in_range (must_name m t (Leave s y) known wish i c refl);
  offered = c.offered;
  in_turn = c.in_turn;
  in_place = c.in_place;
  right_reply = refl;
  permitted = must_choose m t (Leave s y) known wish i c refl;
}
chosen_allowed m t (Wait s d y) known wish i c r = record {
  in_range = and_named (nat_lt s m.seats) _ _ _ _ _ c.in_range (must_name m t (Wait s d y) known wish i c refl);
  offered = c.offered;
  in_turn = c.in_turn;
  in_place = c.in_place;
  right_reply = refl;
  permitted = must_choose m t (Wait s d y) known wish i c refl;
}
chosen_allowed m t (SignalLeave s d y) known wish i c r = record {
  in_range = and_named (nat_lt s m.seats) _ _ _ _ _ c.in_range (must_name m t (SignalLeave s d y) known wish i c refl);
  offered = c.offered;
  in_turn = c.in_turn;
  in_place = c.in_place;
  right_reply = refl;
  permitted = must_choose m t (SignalLeave s d y) known wish i c refl;
}
chosen_allowed m t (SignalWait s d v y) known wish i c r = record {
  in_range = and_named (nat_lt s m.seats) _ _ _ _ _ c.in_range (must_name m t (SignalWait s d v y) known wish i c refl);
  offered = c.offered;
  in_turn = c.in_turn;
  in_place = c.in_place;
  right_reply = refl;
  permitted = must_choose m t (SignalWait s d v y) known wish i c refl;
}
chosen_allowed m t (SignalAll s d) known wish i c r = grind (arith, nat_tests)
chosen_allowed m t (Until s p y) known wish i c r = record {
  in_range = and_named (nat_lt s m.seats) _ _ _ _ _ c.in_range
      (named_or m.seats (m.object.holds t.state p) _ (λ z. must_name m t (Until s p y) known wish i c refl));
  offered = c.offered;
  in_turn = c.in_turn;
  in_place = c.in_place;
  right_reply = refl;
  permitted = stay_or (may_choose m.kind (queues_at m.object t (Until s p y)) s) (m.object.holds t.state p) _
      (λ z. must_choose m t (Until s p y) known wish i c refl);
}
chosen_allowed m t (Signal s d y) known wish i c r = record {
  in_range = and_named (nat_lt s m.seats) _ _ _ _ _ c.in_range (named_or m.seats (is_empty (t.condition d)) _ (λ z.
      named_signalled m.kind (queues_at m.object t (Signal s d y)) s m.seats _
      (within_queues m t (Signal s d y) i.placed i.seated c.in_range) (served_choice m t s d y known wish i c z)));
  offered = c.offered;
  in_turn = c.in_turn;
  in_place = c.in_place;
  right_reply = refl;
  permitted = grind (arith, nat_tests, stay_or, served_choice);
}
