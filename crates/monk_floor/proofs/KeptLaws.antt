-- What a floor keeps, before an event and after it
use Rattle.std.proofs.Common.{◌≡◌, ℕ, ◌+◌, ◌-◌, ◌*◌, ◌<◌, ◌≤◌, zero, suc, Bool, true, false, cond, ◌&&◌, ◌||◌, not}
use Rattle.std.proofs.Common.{◌==◌, All, List, [], ◌∷◌, ◌++◌, length, refl, sym, ap, subst, ◌∙◌, arith, Option, drop, ⊎_elim}
use Rattle.std.proofs.lemmas.{Bool.eqb-true, Bool.cases_lt, Bool.Decides.nat_tests, List.Elements.All-nil}
use Rattle.std.proofs.Math.Nat.{mul-le-mul_right}
use Rattle.std.specs.{Prelude.nat_lt, Prelude.slice_index_or, List.list_all}
use Rattle.monk_kinds.specs.{declared.mode.Rules.Rules, Kind.IsKind}
use Rattle.monk_object.specs.Object.{Object}
use Rattle.monk_history.proofs.PublicLaws.Meaning.{and_left, and_right, legal-push, legal_none, same_situation}
use Rattle.monk_history.proofs.PublicLaws.Meaning.{legal_situation-push, situation-none, length-events_of-push}
use Rattle.monk_history.proofs.PublicLaws.Meaning.{granted_of-push, enters_of-push, granted_few, enters_few}
use Rattle.monk_history.proofs.PublicLaws.Meaning.{granted_none, enters_none, few_events, room_left, history_few}
use Rattle.monk_history.proofs.PublicLaws.Meaning.{IsInOrder, legal_order, seat_in_range, caller_unqueued}
use Rattle.monk_history.proofs.PublicLaws.Meaning.{joins_in_range}
use Rattle.monk_history.specs.Meaning.{Monitor.Monitor, Monitor.data_after, Situation.situation, Step.after}
use Rattle.monk_history.specs.Meaning.{Step.opening_situation, Signallers.is_empty, Release.MayCall, Legal.IsLegal}
use Rattle.monk_history.specs.Meaning.Counts.{events_of, left_of, grants, granted_of, is_enter, enters_of}
use Rattle.monk_history.specs.Meaning.Reasons.{is_in_range, is_condition, fits_object, IsAllowed}
use Rattle.monk_history.specs.Meaning.Events.{seat_of, next_of, named_seat, waits_on, signals_on}
use Rattle.monk_history.specs.Meaning.Conditions.{waiting_by, served_by}
use Rattle.monk_history.specs.Meaning.Standing.{times, times_in_conditions, in_queues}
use Rattle.monk_history.specs.Meaning.Turn.{turn_by, is_enter_of, is_exit_of}
use Rattle.monk_history.specs.Limits.{most_seats, most_conds, most_budget, most_lines}
use Rattle.monk_history.specs.declared.event.{Event.Event, Turn.Turn, Turn.TheVariants.Open}
use Rattle.monk_floor.specs.{View.FloorView, View.monitor_of, Kept.shown_situation, Kept.KeepsHistory, Ready.HasRoomFor}
use Rattle.monk_floor.specs.Queues.{QueueLists, queue_at, in_lists, IsMoved}

range_waits : (m : Monitor) (e : Event) → is_in_range m.seats m.conds m.object.codes m.object.predicates e ≡ true
    → is_condition m.conds (waits_on e) ≡ true
range_waits m e h = grind (arith, nat_tests)

range_signals : (m : Monitor) (e : Event) → is_in_range m.seats m.conds m.object.codes m.object.predicates e ≡ true
    → is_condition m.conds (signals_on e) ≡ true
range_signals m e h = and_right _ _ (and_left _ (fits_object m.object.codes m.object.predicates e) h)

named_in_range : (m : Monitor) (e : Event) → is_in_range m.seats m.conds m.object.codes m.object.predicates e ≡ true
    → list_all (λ j. nat_lt j m.seats) (named_seat (next_of e)) ≡ true
named_in_range m e h = grind (arith, nat_tests)

range_object : (m : Monitor) (e : Event) → is_in_range m.seats m.conds m.object.codes m.object.predicates e ≡ true
    → fits_object m.object.codes m.object.predicates e ≡ true
range_object m e h = and_right _ _ h

-- a condition of a monitor with fewer is one of a monitor with more
wider : (n m : ℕ) (o : Option ℕ) → n ≤ m → is_condition n o ≡ true → is_condition m o ≡ true
wider n m o l h = grind (arith, nat_tests)

-- nobody waits on a condition that doesn't exist
nobody_waits : (n c : ℕ) (e : Event) → n ≤ c → is_condition n (waits_on e) ≡ true → waiting_by c e ≡ []
nobody_waits n c e l h = grind (arith, nat_tests)

still_unused : (c : ℕ) (e : Event) (xs : List ℕ) → xs ≡ [] → waiting_by c e ≡ []
    → drop (length (served_by c e xs)) xs ++ waiting_by c e ≡ []
still_unused c e xs n w = grind (arith, nat_tests)

-- a seat is in no queue of a condition that doesn't exist
times_unused : (s n m : ℕ) (q : ℕ → List ℕ) → n ≤ m → ((c : ℕ) → n ≤ c → q c ≡ [])
    → times_in_conditions m s q ≡ times_in_conditions n s q
times_unused s n zero q l h = ap (λ k. times_in_conditions k s q) (let same : 0 ≡ n = omega (arith, l) in same)
times_unused s n (suc m) q l h =
    ⊎_elim
    (λ k. ap (λ j. times_in_conditions j s q) (let same : suc m ≡ n = omega (arith, l, k) in same))
    (λ k. let none : times s (q m) ≡ 0 = ap (times s) (h m k) in omega (arith, none, times_unused s n m q k h))
    (cases_lt m n)

one_within : (b : Bool) (x n : ℕ) → (b ≡ true → x < n) → x ≤ n → x + cond b 1 0 ≤ n
one_within b x n f l = grind (arith, nat_tests)

past_none : (xs : List ℕ) (i : ℕ) → length xs ≤ i → slice_index_or xs i 0 ≡ 0
past_none [] i l = refl
past_none (x ∷ xs) zero l = absurd (omega (arith, l))
past_none (x ∷ xs) (suc i) l = past_none xs i (omega (arith, l))

module _ {m : Monitor} {budget : ℕ} {h : List Event} {capacity : ℕ} {q : QueueLists} {state : List ℕ} {turn : Turn}
    {inside : List Bool} {spent granted : List ℕ} {entered : ℕ} where
  pub in_order : KeepsHistory m budget h capacity q state turn inside spent granted entered → IsKind m.kind
      → IsInOrder m (situation m h)
  in_order kept k = legal_order m h k kept.legal

  -- the caller is in no queue
  apart_kept : KeepsHistory m budget h capacity q state turn inside spent granted entered → IsKind m.kind
      → (e : Event) → IsAllowed m h e → in_lists (seat_of e) q ≡ 0
  apart_kept kept k e a =
      let none : in_queues m.conds (seat_of e) (shown_situation q state turn inside (not (is_empty h))) ≡ 0 =
      grind (arith, nat_tests, caller_unqueued, in_order) in
      let all = times_unused (seat_of e) m.conds most_conds (queue_at q.conditions) kept.conds kept.unused in
      omega (arith, none, all)

  few_kept : KeepsHistory m budget h capacity q state turn inside spent granted entered → (e : Event) → IsAllowed m h e
      → length (events_of h (seat_of e)) < budget → length h < 33554432
  few_kept kept e a l = grind (arith, nat_tests, seat_in_range, few_events, room_left, past_none)

  pub is_ready : KeepsHistory m budget h capacity q state turn inside spent granted entered → IsKind m.kind
      → (e : Event) → IsAllowed m h e → length (events_of h (seat_of e)) < budget
      → HasRoomFor q inside spent granted entered e
  is_ready kept k e a l =
      let s = seat_in_range m.seats m.conds m.object.codes m.object.predicates e a.in_range in
      record {
        few = let f = kept.few in omega (arith, s, f);
        seat = omega (arith, s, kept.inside_seats);
        counted = omega (arith, s, kept.spent_seats);
        low = let c = kept.counts (seat_of e) in let w = kept.low in grind (arith, c, w, l);
        named = grind (arith, nat_tests, named_in_range);
        low_granted = grind (arith, nat_tests, few_kept, granted_few);
        low_entered = grind (arith, nat_tests, few_kept, enters_few);
        waits = wider m.conds most_conds (waits_on e) kept.conds (range_waits m e a.in_range);
        signals = wider m.conds most_conds (signals_on e) kept.conds (range_signals m e a.in_range);
        apart = apart_kept kept k e a;
      }

  -- the history is no longer than the budgets of all seats
  pub within_budgets : KeepsHistory m budget h capacity q state turn inside spent granted entered
      → length h ≤ m.seats * budget
  within_budgets kept = grind (arith, nat_tests, history_few, past_none)

  -- so a text has lines for all of it
  pub within_lines : KeepsHistory m budget h capacity q state turn inside spent granted entered
      → length h ≤ most_lines
  within_lines kept = grind (arith, nat_tests, within_budgets, mul-le-mul_right)

  -- and there is room in the history
  pub has_room : KeepsHistory m budget h capacity q state turn inside spent granted entered → (e : Event)
      → IsAllowed m h e → length (events_of h (seat_of e)) < budget → length h < capacity
  has_room kept e a l = grind (arith, nat_tests, seat_in_range, room_left, past_none)

  -- what is kept after an event that is allowed
  pub kept_push : KeepsHistory m budget h capacity q state turn inside spent granted entered → (e : Event)
      → IsAllowed m h e → length (events_of h (seat_of e)) < budget
      → (capacity2 : ℕ) (q2 : QueueLists) (state2 : List ℕ) (turn2 : Turn) (inside2 : List Bool)
      (spent2 granted2 : List ℕ) (entered2 : ℕ)
      → capacity2 ≡ capacity → IsMoved q e q2 → state2 ≡ data_after m.object state e
      → turn2 ≡ turn_by (seat_of e) (next_of e)
      → ((j : ℕ)
      → slice_index_or inside2 j false ≡ (slice_index_or inside j false && not (is_exit_of j e)) || is_enter_of j e)
      → ((j : ℕ) → slice_index_or spent2 j 0 ≡ slice_index_or spent j 0 + cond (seat_of e == j) 1 0)
      → ((j : ℕ) → slice_index_or granted2 j 0 ≡ slice_index_or granted j 0 + cond (grants j e) 1 0)
      → entered2 ≡ entered + cond (is_enter e) 1 0 → length granted2 ≡ length granted
      → length inside2 ≡ length inside → length spent2 ≡ length spent
      → KeepsHistory m budget (h ++ e ∷ []) capacity2 q2 state2 turn2 inside2 spent2 granted2 entered2
  kept_push kept e a l capacity2 q2 state2 turn2 inside2 spent2 granted2 entered2 cap moved st tu ins sp gr en
      lg li ls = record {
        legal = legal-push m h e kept.legal a;
        stands =
            same_situation (shown_situation q2 state2 turn2 inside2 (not (is_empty (h ++ e ∷ []))))
            (after m.object (shown_situation q state turn inside (not (is_empty h))) e)
            moved.condition moved.waiters moved.signallers moved.untils st tu ins (begun h)
            ∙ (ap (λ t. after m.object t e) kept.stands ∙ sym (legal_situation-push m h e kept.legal));
        counts = grind (arith, nat_tests, length-events_of-push);
        grants_counted = grind (arith, nat_tests, granted_of-push);
        enters_counted = en ∙ (ap (λ n. n + cond (is_enter e) 1 0) kept.enters_counted ∙ sym (enters_of-push h e));
        granted_seats = lg ∙ kept.granted_seats;
        within = grind (arith, nat_tests, length-events_of-push, one_within, eqb-true);
        room = subst (λ n. m.seats * budget ≤ n) (sym cap) kept.room;
        inside_seats = li ∙ kept.inside_seats;
        spent_seats = ls ∙ kept.spent_seats;
        conds = kept.conds;
        unused = grind (arith, nat_tests, still_unused, nobody_waits, range_waits);
        few = kept.few;
        low = kept.low;
        predicates = grind (arith, nat_tests, All, joins_in_range, range_object);
      }
    where
      begun : (xs : List Event) → not (is_empty (xs ++ e ∷ [])) ≡ true
      begun [] = refl
      begun (x ∷ xs) = refl

-- what holds for a floor's value holds for the equal value before
pub allowed_here : (k : Rules) (o : Object) (f g : FloorView) (e : Event) → g ≡ f
    → IsAllowed (monitor_of k o f) f.history e → IsAllowed (monitor_of k o g) g.history e
allowed_here k o f g e s a = subst (λ x. IsAllowed (monitor_of k o x) x.history e) (sym s) a

pub call_here : (k : Rules) (o : Object) (f g : FloorView) (e : Event) → g ≡ f → MayCall (monitor_of k o f) f.history e
    → MayCall (monitor_of k o g) g.history e
call_here k o f g e s a = subst (λ x. MayCall (monitor_of k o x) x.history e) (sym s) a

pub left_here : (f g : FloorView) (s : ℕ) → g ≡ f → 0 < left_of f.budget f.history s
    → length (events_of g.history s) < g.budget
left_here f g s e l = grind (arith, nat_tests)

none_kept : (h : List Event) → h ≡ [] → not (is_empty h) ≡ false
none_kept h e = ap (λ x. not (is_empty x)) e

no_events : (s : ℕ) → length (events_of [] s) ≡ 0
unfolding events_of
no_events s = refl

-- what is kept before any event
pub kept_none : (m : Monitor) (budget : ℕ) (h : List Event) (capacity : ℕ) (q : QueueLists) (state : List ℕ)
    (turn : Turn) (inside : List Bool) (spent granted : List ℕ) (entered : ℕ)
    → h ≡ [] → capacity ≡ m.seats * budget → state ≡ m.opening → m.seats ≤ most_seats → budget ≤ most_budget
    → ((c : ℕ) → queue_at q.conditions c ≡ []) → m.conds ≤ most_conds → q.waiters ≡ [] → q.signallers ≡ []
    → q.untils ≡ [] → turn ≡ Open
    → ((j : ℕ) → slice_index_or inside j false ≡ false) → ((j : ℕ) → slice_index_or spent j 0 ≡ 0)
    → length inside ≡ m.seats → length spent ≡ m.seats
    → ((j : ℕ) → slice_index_or granted j 0 ≡ 0) → entered ≡ 0 → length granted ≡ m.seats
    → KeepsHistory m budget h capacity q state turn inside spent granted entered
kept_none m budget h capacity q state turn inside spent granted entered e cap st few low qs cs ws ss us tu ins
    sp li ls gr en lg = record {
      grants_counted = λ s. gr s ∙ (sym (granted_none s) ∙ ap (λ x. granted_of x s) (sym e));
      enters_counted = en ∙ (sym enters_none ∙ ap enters_of (sym e));
      granted_seats = lg;
      legal = subst (IsLegal m) (sym e) (legal_none m);
      stands =
          same_situation (shown_situation q state turn inside (not (is_empty h)))
          (opening_situation m) qs ws ss us st tu ins (none_kept h e)
          ∙ (sym (situation-none m) ∙ ap (situation m) (sym e));
      counts = λ s. sp s ∙ (sym (no_events s) ∙ ap (λ x. length (events_of x s)) (sym e));
      within = grind (arith, nat_tests, no_events);
      room = omega (arith, cap);
      inside_seats = li;
      spent_seats = ls;
      conds = cs;
      unused = λ c l. qs c;
      few = few;
      low = grind (arith, low);
      predicates =
          subst (All (λ (w : ℕ × ℕ). w.1 < m.object.predicates)) (sym us)
          (All-nil (λ (w : ℕ × ℕ). w.1 < m.object.predicates));
    }
