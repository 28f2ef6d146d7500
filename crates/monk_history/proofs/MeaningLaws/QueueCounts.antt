-- How often a seat is in the queues, before and after an event
use Rattle.std.proofs.Common.{◌≡◌, ◌≢◌, ℕ, ◌+◌, ◌<◌, ◌≤◌, zero, suc, Bool, true, false, cond, ◌&&◌, ◌||◌, not}
use Rattle.std.proofs.Common.{◌==◌, Option, Some, None, List, [], ◌∷◌, ◌++◌, length, drop, refl, ap}
use Rattle.std.proofs.Common.{◌∙◌, arith, map, ⊎_elim, eq-eqb, ◌⊎◌}
use Rattle.std.proofs.lemmas.Bool.{false≢true, cases_lt, eqb-true, Decides.eqb_tells, Decides.nat_tests}
use Rattle.std.specs.Prelude.{filter}
use Rattle.monk_kinds.specs.declared.mode.Rules.{Rules}
use Rattle.monk_object.specs.Object.{Object}
use Rattle.monk_history.proofs.MeaningLaws.{TestLaws.and_left, TestLaws.and_right, ConditionLaws.served_front}
use Rattle.monk_history.specs.Meaning.{Untils.ready_of, Turn.turn_by, Waiters.served_at, Waiters.serves}
use Rattle.monk_history.specs.Meaning.Reasons.{is_open, is_due, is_owned_by, is_condition}
use Rattle.monk_history.specs.Meaning.Events.{seat_of, waits_on, signals_on, is_waiter, is_signaller, is_stay, is_until}
use Rattle.monk_history.specs.Meaning.Events.{has_conditions}
use Rattle.monk_history.specs.Meaning.Choice.{is_front, may_choose}
use Rattle.monk_history.specs.Meaning.Conditions.{is_at, waiting_by, served_of, served_by}
use Rattle.monk_history.specs.Meaning.Standing.{times, times_in_conditions, has_turn}
use Rattle.monk_history.specs.declared.event.{From3.From3, Event.Event, Turn.Turn}
use Rattle.monk_history.specs.declared.event.Next.{Next}
use Rattle.monk_history.specs.declared.event.Next.TheVariants.{Stay, Entry, Waiter, Signaller, Until as UntilSeat}

pub times-append : (s : ℕ) (xs ys : List ℕ) → times s (xs ++ ys) ≡ times s xs + times s ys
times-append s [] ys = omega arith
times-append s (x ∷ xs) ys = omega (arith, times-append s xs ys)

-- the front goes
pub times_front : (s j : ℕ) (xs : List ℕ) → is_front j xs ≡ true → cond (j == s) 1 0 + times s (drop 1 xs) ≡ times s xs
times_front s j xs h = grind (arith, nat_tests)

-- those served leave the queue
pub times_served : (s : ℕ) (e : Event) (q : List ℕ)
    → times s (drop (length (served_of e q)) q) + times s (served_of e q) ≡ times s q
times_served s e q =
    omega (arith, ap (times s) (served_front e q), times-append s (served_of e q) (drop (length (served_of e q)) q))

times_when : (s : ℕ) (b : Bool) (e : Event) (q : List ℕ)
    → times s (drop (length (cond b (served_of e q) [])) q) + cond b (times s (served_of e q)) 0 ≡ times s q
times_when s b e q = grind (arith, nat_tests, times_served)

times_cond : (s : ℕ) (b : Bool) (x : ℕ) → times s (cond b (x ∷ []) []) ≡ cond b (cond (x == s) 1 0) 0
times_cond s b x = grind (arith, nat_tests)

-- the value of f at the condition that an option names, as a sum over all conditions
abbrev pub sum_at : ℕ → Option ℕ → (ℕ → ℕ) → ℕ
sum_at zero o f = 0
sum_at (suc n) o f = sum_at n o f + cond (is_at n o) (f n) 0

abbrev pub value_at : Option ℕ → (ℕ → ℕ) → ℕ
value_at None f = 0
value_at (Some c) f = f c

sum_none : (n : ℕ) (f : ℕ → ℕ) → sum_at n None f ≡ 0
sum_none zero f = refl
sum_none (suc n) f = omega (arith, sum_none n f)

cond_false : (b : Bool) (x : ℕ) → b ≡ false → cond b x 0 ≡ 0
cond_false b x h = ap (λ c. cond c x 0) h

cond_true : (b : Bool) (x : ℕ) → b ≡ true → cond b x 0 ≡ x
cond_true b x h = ap (λ c. cond c x 0) h

sum_past : (n c : ℕ) (f : ℕ → ℕ) → n ≤ c → sum_at n (Some c) f ≡ 0
sum_past zero c f l = refl
sum_past (suc n) c f l = let h : (c == n) ≡ false = grind (arith, l) in
    omega (arith, sum_past n c f (omega arith), cond_false (c == n) (f n) h)

sum_one : (n c : ℕ) (f : ℕ → ℕ) → c < n → sum_at n (Some c) f ≡ f c
sum_one zero c f l = absurd (omega arith)
sum_one (suc n) c f l =
    ⊎_elim
    (λ k. let h : (c == n) ≡ false = grind (arith, k) in omega (arith, sum_one n c f k, cond_false (c == n) (f n) h))
    (λ k. let e : c ≡ n = omega arith in
    omega (arith, sum_past n c f k, cond_true (c == n) (f n) (eq-eqb c n e), ap f e))
    (cases_lt c n)

sum_is : (n : ℕ) (o : Option ℕ) (f : ℕ → ℕ) → is_condition n o ≡ true → sum_at n o f ≡ value_at o f
sum_is n o f h = grind (arith, nat_tests, sum_none, sum_one)

-- over all conditions: those served are gone, and the seat that waits has joined
conditions_move : (n s : ℕ) (e : Event) (q : ℕ → List ℕ)
    → times_in_conditions n s (λ c. drop (length (served_by c e (q c))) (q c) ++ waiting_by c e) + sum_at n
    (signals_on e) (λ c. times s (served_of e (q c))) ≡ times_in_conditions n s q + sum_at n (waits_on e)
    (λ c. cond (seat_of e == s) 1 0)
conditions_move zero s e q = refl
conditions_move (suc n) s e q =
    omega (
      arith,
      conditions_move n s e q,
      times_when s (is_at n (signals_on e)) e (q n),
      times_cond s (is_at n (waits_on e)) (seat_of e),
      times-append s (drop (length (served_by n e (q n))) (q n)) (waiting_by n e),
    )

serves_value : (s : ℕ) (o : Option ℕ) (e : Event) (q : ℕ → List ℕ)
    → times s (served_at q o e) ≡ value_at o (λ c. times s (served_of e (q c)))
serves_value s o e q = grind (arith, nat_tests)

-- the same, if both conditions are in range
pub conditions_total : (n s : ℕ) (e : Event) (q : ℕ → List ℕ) → is_condition n (signals_on e) ≡ true
    → is_condition n (waits_on e) ≡ true
    → times_in_conditions n s (λ c. drop (length (served_by c e (q c))) (q c) ++ waiting_by c e) + times s
    (serves q e) ≡ times_in_conditions n s q + value_at (waits_on e) (λ c. cond (seat_of e == s) 1 0)
conditions_total n s e q h k = grind (arith, nat_tests, conditions_move, sum_is, serves_value)

pub untils_kept : (s : ℕ) (us : List (ℕ × ℕ))
    → times s (map (λ w. w.0) (filter (λ w. true) us)) ≡ times s (map (λ w. w.0) us)
untils_kept s [] = refl
untils_kept s (w ∷ us) = omega (arith, untils_kept s us)

filter_step : (s : ℕ) (w : ℕ × ℕ) (us vs : List (ℕ × ℕ)) (b : Bool)
    → times s (map (λ u. u.0) (cond (not b) (w ∷ us) vs)) ≡ cond b (times s (map (λ u. u.0) vs))
    (cond (w.0 == s) 1 0 + times s (map (λ u. u.0) us))
filter_step s w us vs b = grind (arith, nat_tests)

cond_both : (b : Bool) (x y z : ℕ) → (b ≡ true → x ≡ z) → (b ≡ false → y ≡ z) → cond b x y ≡ z
cond_both b x y z f g = grind (arith, nat_tests)

-- a chosen seat leaves the waits-until, and every other stays
untils_other : (s j : ℕ) (us : List (ℕ × ℕ)) → j ≢ s
    → times s (map (λ w. w.0) (filter (λ w. not (j == w.0)) us)) ≡ times s (map (λ w. w.0) us)
untils_other s j [] n = refl
untils_other s j (w ∷ us) n =
    filter_step s w (filter (λ u. not (j == u.0)) us) (filter (λ u. not (j == u.0)) us) (j == w.0)
    ∙ cond_both (j == w.0) _ _ _
    (λ h. let e : j ≡ w.0 = eqb-true j w.0 h in let k : (w.0 == s) ≡ false = grind (arith, e, n) in
    omega (arith, untils_other s j us n, cond_false (w.0 == s) 1 k))
    (λ h. ap (λ m. cond (w.0 == s) 1 0 + m) (untils_other s j us n))

untils_gone : (s : ℕ) (us : List (ℕ × ℕ)) → times s (map (λ w. w.0) (filter (λ w. not (s == w.0)) us)) ≡ 0
untils_gone s [] = refl
untils_gone s (w ∷ us) =
    filter_step s w (filter (λ u. not (s == u.0)) us) (filter (λ u. not (s == u.0)) us) (s == w.0)
    ∙ cond_both (s == w.0) _ _ _
    (λ h. untils_gone s us)
    (λ h. let k : (w.0 == s) ≡ false = grind (arith, h) in omega (arith, untils_gone s us, cond_false (w.0 == s) 1 k))

ready_case : (o : Object) (d : List ℕ) (w : ℕ × ℕ) (us : List (ℕ × ℕ)) (j : ℕ) (b : Bool)
    → is_front j (map (λ v. v.0) (cond b (w ∷ filter (λ v. o.holds d v.1) us) (filter (λ v. o.holds d v.1) us))) ≡ true
    → (is_front j (ready_of o d us) ≡ true → 1 ≤ times j (map (λ w. w.0) us)) → 1 ≤ times j (map (λ w. w.0) (w ∷ us))
ready_case o d w us j b h f = grind (arith, nat_tests)

pub ready_there : (o : Object) (d : List ℕ) (us : List (ℕ × ℕ)) (j : ℕ) → is_front j (ready_of o d us) ≡ true
    → 1 ≤ times j (map (λ w. w.0) us)
ready_there o d [] j h = absurd (false≢true h)
ready_there o d (w ∷ us) j h = ready_case o d w us j (o.holds d w.1) h (ready_there o d us j)

-- a chosen seat that waits until is there once, and then has the turn
untils_chosen : (s j : ℕ) (us : List (ℕ × ℕ)) → times j (map (λ w. w.0) us) ≡ 1
    → times s (map (λ w. w.0) (filter (λ w. not (j == w.0)) us)) + cond (j == s) 1 0 ≡ times s (map (λ w. w.0) us)
untils_chosen s j us h =
    grind (arith, nat_tests, eqb-true, untils_gone, cond_true, eq-eqb, untils_other, cond_false, eqb_tells)

-- the chosen seat moves from its queue to the turn
pub release : (k : Rules) (ws ss rs : List ℕ) (us : List (ℕ × ℕ)) (v : ℕ) (x : Next) (b : Bool) (s : ℕ)
    → may_choose k (record { waiters = ws; signallers = ss; ready = rs }) v x ≡ true
    → ((j : ℕ) → is_front j rs ≡ true → 1 ≤ times j (map (λ w. w.0) us))
    → ((j : ℕ) → times j (map (λ w. w.0) us) ≤ 1)
    → times s (drop (cond (is_waiter (Some x)) 1 0) ws) + times s
    (drop (cond (is_signaller (Some x) || (is_stay (Some x) && b)) 1 0) ss) + times s
    (map (λ w. w.0) (filter (λ w. not (is_until w.0 (Some x))) us)) + has_turn s (turn_by v (Some x)) ≡ times s
    ws + times s ss + times s (map (λ w. w.0) us)
release k ws ss rs us v Stay b s h f u = absurd (false≢true h)
release k ws ss rs us v Entry b s h f u = omega (arith, untils_kept s us)
release k ws ss rs us v (Waiter j) b s h f u = omega (arith, untils_kept s us, times_front s j ws (and_left _ _ h))
release k ws ss rs us v (Signaller j) b s h f u =
    omega (arith, untils_kept s us, times_front s j ss (and_left _ _ (and_left _ _ h)))
release k ws ss rs us v (UntilSeat j) b s h f u =
    let there : 1 ≤ times j (map (λ w. w.0) us) = f j (and_right (not (has_conditions k.mode)) _ h) in
    omega (arith, untils_chosen s j us (omega (arith, u j, there)))

pub untils_total : (s : ℕ) (us vs : List (ℕ × ℕ))
    → times s (map (λ w. w.0) (us ++ vs)) ≡ times s (map (λ w. w.0) us) + times s (map (λ w. w.0) vs)
untils_total s [] vs = omega arith
untils_total s (w ∷ us) vs = omega (arith, untils_total s us vs)

pub at_most_one : (b : Bool) → cond b 1 0 ≤ 1
at_most_one b = grind (arith, nat_tests)

pub open_turn : (s : ℕ) (t : Turn) → is_open t ≡ true → has_turn s t ≡ 0
open_turn s t h = grind (arith, nat_tests)

pub owned_turn : (s v : ℕ) (t : Turn) → is_owned_by v t ≡ true → has_turn s t ≡ cond (v == s) 1 0
owned_turn s v t h = grind (arith, nat_tests)

pub due_turn : (s v : ℕ) (q : From3) (t : Turn) → is_due v q t ≡ true → has_turn s t ≡ cond (v == s) 1 0
due_turn s v q t h = grind (arith, nat_tests)

pub count_in : (b c : Bool) → (c ≡ true → b ≡ false) → cond ((b && true) || c) 1 0 ≡ cond b 1 0 + cond c 1 0
count_in b c f = grind (arith, nat_tests)

pub count_out : (b c : Bool) → cond c 1 0 ≤ cond b 1 0 → cond ((b && not c) || false) 1 0 + cond c 1 0 ≡ cond b 1 0
count_out b c l = grind (arith, nat_tests)

pub count_same : (b : Bool) → cond {A = ℕ} ((b && true) || false) 1 0 ≡ cond {A = ℕ} b 1 0
count_same b = grind (arith, nat_tests)

pub not_true : (b : Bool) → not b ≡ true → b ≡ false
not_true b h = grind (arith, nat_tests)
