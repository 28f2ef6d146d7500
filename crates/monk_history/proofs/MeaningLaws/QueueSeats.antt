-- Which queues a kind has, and which numbers are in them
use Rattle.std.proofs.Common.{◌≡◌, ℕ, ◌+◌, ◌<◌, ◌≤◌, zero, suc, Bool, true, false, cond, ◌==◌, rules}
use Rattle.std.proofs.Common.{List, [], ◌∷◌, sym, ap, subst, arith, map, ⊎_elim}
use Rattle.std.proofs.lemmas.Bool.{false≢true, cases_lt, Decides.nat_tests}
use Rattle.std.specs.Prelude.{filter, nat_lt}
use Rattle.monk_kinds.specs.declared.mode.{Mode.Mode, Rules.Rules}
use Rattle.monk_object.specs.Object.{Object}
use Rattle.monk_history.proofs.MeaningLaws.{HistoryLaws.history_induction, LegalLaws.legal_front, LegalLaws.legal_last}
use Rattle.monk_history.proofs.MeaningLaws.{WishLaws.IsQueuesOf, StepLaws.situation-none, StepLaws.legal_situation-push}
use Rattle.monk_history.specs.Meaning.{Monitor.Monitor, Step.after, Choice.queues_at, Choice.is_front, Legal.IsLegal}
use Rattle.monk_history.specs.Meaning.{Standing.times, Standing.times_in_conditions, Untils.ready_of}
use Rattle.monk_history.specs.Meaning.Events.{seat_of, has_conditions, has_signaller_queue}
use Rattle.monk_history.specs.Meaning.Situation.{Situation, situation}
use Rattle.monk_history.specs.Meaning.Reasons.{is_in_range, is_offered, IsAllowedIn}
use Rattle.monk_history.specs.declared.event.Event.{Event}

-- what holds for the situation before any event, and is kept by what is allowed, holds for each legal history
pub legal_induction : (m : Monitor) (P : Situation → Type 0) → P (situation m [])
    → ((t : Situation) (e : Event) → P t → IsAllowedIn m t e → P (after m.object t e)) → (h : List Event) → IsLegal m h
    → P (situation m h)
legal_induction m P none more h = history_induction (λ x. IsLegal m x → P (situation m x)) (λ l. none) (λ x e before l.
    subst P (sym (legal_situation-push m x e (legal_front m x (e ∷ []) l)))
    (more (situation m x) e (before (legal_front m x (e ∷ []) l)) (legal_last m x e l))) h

-- automatic kinds have only waits-until, the others none
pub record IsSorted (k : Rules) (t : Situation) : Type 0 where
  pub untils : has_conditions k.mode ≡ true → t.untils ≡ []
  pub waiters : has_conditions k.mode ≡ false → t.waiters ≡ []
  pub signallers : has_conditions k.mode ≡ false → t.signallers ≡ []

pub signal_conditions : (mode : Mode) → has_signaller_queue mode ≡ true → has_conditions mode ≡ true
signal_conditions mode h = grind (arith, nat_tests)

sorted_after : (k : Rules) (o : Object) (t : Situation) (e : Event) → IsSorted k t → is_offered k e ≡ true
    → IsSorted k (after o t e)
sorted_after k o t e s a = grind (arith, nat_tests)

sorted_none : (m : Monitor) → IsSorted m.kind (situation m [])
sorted_none m = search (rules, situation-none)

pub legal_sorted : (m : Monitor) (h : List Event) → IsLegal m h → IsSorted m.kind (situation m h)
legal_sorted m h l =
    legal_induction m (IsSorted m.kind) (sorted_none m) (λ t e s a. sorted_after m.kind m.object t e s a.offered) h l

pub sorted_queues : (k : Rules) (o : Object) (t : Situation) (e : Event) → IsSorted k t → is_offered k e ≡ true
    → IsQueuesOf k (queues_at o t e)
sorted_queues k o t e s a = grind (arith, nat_tests)

-- a number that is inside is below that of the seats
abbrev pub IsSeated : ℕ → Situation → Type 0
IsSeated seats t = (j : ℕ) → t.inside j ≡ true → j < seats

pub lt_of : (x n : ℕ) → nat_lt x n ≡ true → x < n
lt_of x n h = grind (arith, h)

pub lt_to : (x n : ℕ) → x < n → nat_lt x n ≡ true
lt_to x n h = grind (arith, h)

pub seat_in_range : (seats conds codes predicates : ℕ) (e : Event)
    → is_in_range seats conds codes predicates e ≡ true → seat_of e < seats
seat_in_range seats conds codes predicates e h = grind (arith, nat_tests)

seated_after : (m : Monitor) (t : Situation) (e : Event) → IsSeated m.seats t → IsAllowedIn m t e
    → IsSeated m.seats (after m.object t e)
seated_after m t e h h' = grind (arith, nat_tests)

seated_none : (m : Monitor) → IsSeated m.seats (situation m [])
seated_none m = subst (λ t. IsSeated m.seats t) (sym (situation-none m)) (λ j h. absurd (false≢true h))

pub legal_seated : (m : Monitor) (h : List Event) → IsLegal m h → IsSeated m.seats (situation m h)
legal_seated m h l = legal_induction m (λ t. IsSeated m.seats t) (seated_none m) (λ t e s a. seated_after m t e s a) h l

-- the front of a queue is in the queue
pub front_times : (j : ℕ) (xs : List ℕ) → is_front j xs ≡ true → 1 ≤ times j xs
front_times j xs h = grind (arith, nat_tests)

pub front_absent : (j : ℕ) (xs : List ℕ) → times j xs ≡ 0 → is_front j xs ≡ false
front_absent j xs h = grind (arith, nat_tests)

pub times_le_conditions : (n s c : ℕ) (q : ℕ → List ℕ) → c < n → times s (q c) ≤ times_in_conditions n s q
times_le_conditions zero s c q l = absurd (omega arith)
times_le_conditions (suc n) s c q l =
    ⊎_elim (λ k. omega (arith, times_le_conditions n s c q k))
    (λ k. let e : c ≡ n = omega arith in omega (arith, ap (λ x. times s (q x)) e)) (cases_lt c n)

pub some_true : (b : Bool) → 1 ≤ cond b 1 0 → b ≡ true
some_true b h = grind (arith, nat_tests)

pub times_filter : (o : Object) (d : List ℕ) (us : List (ℕ × ℕ)) (j : ℕ)
    → times j (ready_of o d us) ≤ times j (map (λ w. w.0) us)
times_filter o d [] j = omega arith
times_filter o d (u ∷ us) j = one (o.holds d u.1) (times_filter o d us j)
  where
    one : (b : Bool) → times j (ready_of o d us) ≤ times j (map (λ w. w.0) us)
        → times j (map (λ (w : ℕ × ℕ). w.0)
        (cond b (u ∷ filter (λ w. o.holds d w.1) us) (filter (λ w. o.holds d w.1) us))) ≤ cond (u.0 == j) 1 0 + times j
        (map (λ (w : ℕ × ℕ). w.0) us)
    one true h = omega (arith, h)
    one false h = omega (arith, h)
