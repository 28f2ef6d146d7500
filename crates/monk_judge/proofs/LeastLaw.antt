-- One more line: no run wakes fewer threads unasked on a condition than the judge's
use Rattle.std.proofs.Common.{◌≡◌, ℕ, suc, ◌+◌, ◌<◌, ◌≤◌, ◌==◌, ◌&&◌, ◌⊎◌, inl, inr, Bool, true, false, List, [], ◌∷◌, ◌++◌, Option, Some, None, refl, sym, ap, subst, arith, ◌∙◌}
use Rattle.std.proofs.lemmas.Bool.{cases_Bool}
use Rattle.monk_logs.specs.Log.{line_seat}
use Rattle.monk_logs.specs.declared.text.line.LogLine.{LogLine}
use Rattle.monk_logs.specs.declared.text.line.LogLine.TheVariants.{Enter, Resume, Lapse, Leave, Wait, Signal, Broadcast, Until, Act}
use Rattle.monk_judge.specs.declared.place.Place.{Place}
use Rattle.monk_judge.specs.declared.place.Place.TheVariants.{Outside, Active, Waiting, Woken, RanOut}
use Rattle.monk_judge.specs.Run.{Setting, State, May, MaySignal, WakesRightly, IsWoken, Sleeps, after, run_out, signalled, woken, woken_unasked, with_place}
use Rattle.monk_judge.specs.declared.step.Step.{Step}
use Rattle.monk_judge.specs.declared.step.Step.TheVariants.{Tells, RunsOut, WakesUnasked}
use Rattle.monk_judge.specs.Judged.{CanResume, IsRight, after_all, running_out, steps_at, waking}
use Rattle.monk_judge.specs.Counts.{count, one, waits_on}
use Rattle.monk_judge.specs.Ends.{lapses_next, resumes_within}
use Rattle.monk_judge.proofs.Complete.{Foreseen, Follows, can_stand, class, foreseen_past, sender_here}
use Rattle.monk_judge.proofs.Counting.{count_drop}
use Rattle.monk_judge.proofs.Least.{Dom, and_parts_true, asleep_on, asleep_out, dom_back, dom_nobody, dom_past, dom_same, dom_signal, dom_still, due, due_elsewhere, due_same, due_sleeps, elsewhere, here, unasked_drop, woken_calm, woken_other}
use Rattle.std.proofs.lemmas.Bool.Decides.{nat_tests}

-- how many threads wake unasked on the condition
abbrev pub unasked_on : Setting → ℕ → State → List Step → ℕ
unasked_on m c x [] = 0
unasked_on m c x (Tells l w ∷ steps) = unasked_on m c (after m x (Tells l w)) steps
unasked_on m c x (RunsOut s ∷ steps) = unasked_on m c (after m x (RunsOut s)) steps
unasked_on m c x (WakesUnasked s ∷ steps) = one (waits_on c (x.place s)) + unasked_on m c
    (after m x (WakesUnasked s)) steps

-- the signal wakes a thread that goes on as early as any other that sleeps there
abbrev pub GoesOnWithin : ℕ → ℕ → List LogLine → Option ℕ → Type 0
GoesOnWithin seats d rest None = ⊥
GoesOnWithin seats d rest (Some k) = (k < seats) × (resumes_within k d rest ≡ true)

-- ---- costs

pub cost_on : (m : Setting) (c : ℕ) (x : State) (a b : List Step)
    → unasked_on m c x (a ++ b) ≡ unasked_on m c x a + unasked_on m c (after_all m x a) b
cost_on m c x [] b = omega arith
cost_on m c x (Tells l w ∷ a) b = cost_on m c (after m x (Tells l w)) a b
cost_on m c x (RunsOut s ∷ a) b = cost_on m c (after m x (RunsOut s)) a b
cost_on m c x (WakesUnasked s ∷ a) b = let h = cost_on m c (after m x (WakesUnasked s)) a b in omega arith

dom_cost : (n c most kx k2 ky : ℕ) (rest : List LogLine) (f g : ℕ → Place) → kx ≡ k2 → Dom n c f g rest most kx ky
    → Dom n c f g rest most k2 ky
dom_cost n c most kx k2 ky rest f g e h = subst (λ k. Dom n c f g rest most k ky) e h

free_line : (n c most kx ky : ℕ) (rest : List LogLine) (f g : ℕ → Place) → Dom n c f g rest most kx ky
    → Dom n c f g rest most (kx + 0) ky
free_line n c most kx ky rest f g h = dom_cost n c most kx (kx + 0) ky rest f g (omega arith) h

-- ---- who doesn't sleep

calm : (c : ℕ) (p q : Place) → class p ≡ class q → (p ≡ Active) ⊎ (p ≡ Outside) → asleep_on c q ≡ false
calm c p q e h = grind (arith, nat_tests)

sender_is : (m : Setting) (x y : State) (rest : List LogLine) (s c : ℕ) → Follows x y rest → MaySignal m x s c
    → (x.place s ≡ Active) ⊎ (x.place s ≡ Outside)
sender_is m x y rest s c f h = grind (arith, nat_tests)

-- ---- a wait

waited_dom : (m : Setting) (n c most kx ky s e : ℕ) (b : Bool) (rest : List LogLine) (x y : State) → s < n
    → Dom n c x.place y.place (Wait s e ∷ rest) (suc most) kx ky
    → Dom n c (after_all m x (Tells (Wait s e) None ∷ running_out s b)).place
    (after m y (Tells (Wait s e) None)).place rest most
    (kx + unasked_on m c x (Tells (Wait s e) None ∷ running_out s b)) ky
waited_dom m n c most kx ky s e false rest x y lt h = free_line n c most kx ky rest
    (with_place s (Waiting e) x.place) (with_place s (Waiting e) y.place)
    (dom_still n c most kx ky (Wait s e) rest x.place y.place (with_place s (Waiting e) x.place)
    (with_place s (Waiting e) y.place) lt refl
    (elsewhere s (Waiting e) x.place) (elsewhere s (Waiting e) y.place)
    (ap (asleep_on c) (here s (Waiting e) x.place ∙ sym (here s (Waiting e) y.place))) h)
waited_dom m n c most kx ky s e true rest x y lt h =
    let f2 = with_place s (Waiting e) x.place in
    let out = with_place s (run_out (f2 s)) f2 in
    free_line n c most kx ky rest out (with_place s (Waiting e) y.place)
    (dom_still n c most kx ky (Wait s e) rest x.place y.place out (with_place s (Waiting e) y.place) lt refl
    (λ j ne. elsewhere s (run_out (f2 s)) f2 j ne ∙ elsewhere s (Waiting e) x.place j ne)
    (elsewhere s (Waiting e) y.place)
    (ap (asleep_on c) (here s (run_out (f2 s)) f2) ∙ asleep_out c (f2 s)
    ∙ ap (asleep_on c) (here s (Waiting e) x.place ∙ sym (here s (Waiting e) y.place))) h)

-- ---- a thread comes back

woken_not : (c : ℕ) (p : Place) → IsWoken p → asleep_on c p ≡ false
woken_not c p h = grind (arith, nat_tests)

back_dom : (m : Setting) (n c most kx ky s : ℕ) (p : Place) (rest : List LogLine) (x y : State) → s < n
    → x.place s ≡ p → CanResume p
    → IsWoken (y.place s) → Dom n c x.place y.place (Resume s ∷ rest) (suc most) kx ky
    → Dom n c (after_all m x (waking s p ++ Tells (Resume s) None ∷ [])).place (with_place s Active y.place) rest most
    (kx + unasked_on m c x (waking s p ++ Tells (Resume s) None ∷ [])) ky
back_dom m n c most kx ky s Outside rest x y lt e can wokeny h = absurd can
back_dom m n c most kx ky s Active rest x y lt e can wokeny h = absurd can
back_dom m n c most kx ky s (Waiting w) rest x y lt e can wokeny h =
    let f1 = with_place s (woken_unasked (x.place s)) x.place in
    let cost : one (asleep_on c (x.place s)) ≡ one (waits_on c (x.place s)) + 0 = grind (arith, nat_tests, asleep_on) in
    dom_cost n c most (kx + one (asleep_on c (x.place s))) (kx + (one (waits_on c (x.place s)) + 0)) ky rest
    (with_place s Active f1) (with_place s Active y.place) (ap (λ k. kx + k) cost)
    (dom_back n c most kx ky s rest x.place y.place (with_place s Active f1) (with_place s Active y.place) lt
    (λ j ne. elsewhere s Active f1 j ne ∙ elsewhere s (woken_unasked (x.place s)) x.place j ne)
    (elsewhere s Active y.place)
    (ap (asleep_on c) (here s Active f1)) (ap (asleep_on c) (here s Active y.place)) (woken_not c (y.place s) wokeny) h)
back_dom m n c most kx ky s (Woken w) rest x y lt e can wokeny h =
    dom_cost n c most (kx + one (asleep_on c (x.place s))) (kx + 0) ky rest (with_place s Active x.place)
    (with_place s Active y.place) (ap (λ q. kx + one (asleep_on c q)) e)
    (dom_back n c most kx ky s rest x.place y.place (with_place s Active x.place) (with_place s Active y.place) lt
    (elsewhere s Active x.place) (elsewhere s Active y.place)
    (ap (asleep_on c) (here s Active x.place)) (ap (asleep_on c) (here s Active y.place))
    (woken_not c (y.place s) wokeny) h)
back_dom m n c most kx ky s (RanOut w) rest x y lt e can wokeny h = absurd can

-- ---- a signal

signal_off : (c e d : ℕ) (rest : List LogLine) (x : State) (w : Option ℕ) → (e == c) ≡ false → WakesRightly x e w
    → (j : ℕ) → due c (signalled e w x.place) d rest j ≡ due c x.place d rest j
signal_off c e d rest x w other h j = grind (arith, nat_tests)

signal_drop : (n c e d : ℕ) (rest : List LogLine) (y : State) (w : Option ℕ)
    → count (due c y.place d rest) n ≤ count (due c (signalled e w y.place) d rest) n + 1
signal_drop n c e d rest y None = omega arith
signal_drop n c e d rest y (Some k) = count_drop (due c y.place d rest) (due c (signalled e (Some k) y.place) d rest)
    k n (λ j ne. sym (due_elsewhere k (Woken e) y.place c d rest j ne))

not_true : (b : Bool) → (b ≡ true → ⊥) → b ≡ false
not_true b h = grind (arith, nat_tests)

signal_on : (n c e most kx ky : ℕ) (rest : List LogLine) (x y : State) (v w : Option ℕ) → (e == c) ≡ true
    → WakesRightly x e v
    → ((j : ℕ) → Foreseen (x.place j) (lapses_next j rest))
    → ((i d : ℕ) → x.place i ≡ Waiting e → resumes_within i d rest ≡ true → GoesOnWithin n d rest v)
    → Dom n c x.place y.place rest most kx ky → Dom n c (signalled e v x.place) (signalled e w y.place) rest most kx ky
signal_on n c e most kx ky rest x y None w same right f first h =
    dom_nobody n c most kx ky rest x.place (signalled e w y.place)
    (λ j d. not_true (due c x.place d rest j) (λ is. right j (due_sleeps c e j d (x.place j) rest (f j) same is)))
    h.cost
signal_on n c e most kx ky rest x y (Some k) w same right f first h =
    dom_signal n c e most kx ky rest x.place y.place (signalled e w y.place) k right same
    (λ d. signal_drop n c e d rest y w)
    (λ i d is. first i d (due_sleeps c e i d (x.place i) rest (f i) same is)
    (and_parts_true (asleep_on c (x.place i)) (resumes_within i d rest) is).1) h

-- ---- a line

pub line_dom : (m : Setting) (c most kx ky : ℕ) (l : LogLine) (v w : Option ℕ) (rest : List LogLine) (x y : State)
    → IsRight x l v
    → ((s e i d : ℕ) → l ≡ Signal s e → x.place i ≡ Waiting e → resumes_within i d rest ≡ true
    → GoesOnWithin m.seats d rest v)
    → Follows x y (l ∷ rest) → May m y (Tells l w) → Dom m.seats c x.place y.place (l ∷ rest) (suc most) kx ky
    → Dom m.seats c (after_all m x (steps_at x l v (lapses_next (line_seat l) rest))).place
    (after m y (Tells l w)).place rest most
    (kx + unasked_on m c x (steps_at x l v (lapses_next (line_seat l) rest))) ky
line_dom m c most kx ky (Enter s) v w rest x y right first f may h = free_line m.seats c most kx ky rest
    (with_place s Active x.place) (with_place s Active y.place)
    (dom_still m.seats c most kx ky (Enter s) rest x.place y.place (with_place s Active x.place)
    (with_place s Active y.place) may.0 refl
    (elsewhere s Active x.place) (elsewhere s Active y.place) (ap (asleep_on c) (here s Active x.place
    ∙ sym (here s Active y.place))) h)
line_dom m c most kx ky (Resume s) v w rest x y right first f may h =
    back_dom m m.seats c most kx ky s (x.place s) rest x y may.0 refl (can_stand m x y (Resume s) w rest f may).2
    may.2 h
line_dom m c most kx ky (Lapse s) v w rest x y right first f may h = free_line m.seats c most kx ky rest
    (with_place s Active x.place) (with_place s Active y.place)
    (dom_still m.seats c most kx ky (Lapse s) rest x.place y.place (with_place s Active x.place)
    (with_place s Active y.place) may.0 refl
    (elsewhere s Active x.place) (elsewhere s Active y.place) (ap (asleep_on c) (here s Active x.place
    ∙ sym (here s Active y.place))) h)
line_dom m c most kx ky (Leave s) v w rest x y right first f may h = free_line m.seats c most kx ky rest
    (with_place s Outside x.place) (with_place s Outside y.place)
    (dom_still m.seats c most kx ky (Leave s) rest x.place y.place (with_place s Outside x.place)
    (with_place s Outside y.place) may.0 refl
    (elsewhere s Outside x.place) (elsewhere s Outside y.place) (ap (asleep_on c) (here s Outside x.place
    ∙ sym (here s Outside y.place))) h)
line_dom m c most kx ky (Wait s e) v w rest x y right first f may h = waited_dom m m.seats c most kx ky s e
    (lapses_next s rest) rest x y may.0 h
line_dom m c most kx ky (Signal s e) v w rest x y right first f may h =
    let can = can_stand m x y (Signal s e) w rest f may in
    let is = sender_is m x y (Signal s e ∷ rest) s e f can in
    let past = dom_past m.seats c most kx ky (Signal s e) rest x.place y.place can.seat refl
    (calm c (x.place s) (x.place s) refl is) (calm c (x.place s) (y.place s) (f.place s) is) h in
    let seen = foreseen_past s x.place false rest (sender_here m x y (Signal s e ∷ rest) s e f may.0) f.foreseen in
    free_line m.seats c most kx ky rest (signalled e v x.place) (signalled e w y.place)
    (elim (cases_Bool (e == c)) as (λ k. Dom m.seats c (signalled e v x.place) (signalled e w y.place) rest most kx
    ky) [
      | inl same ↦ signal_on m.seats c e most kx ky rest x y v w same right seen (λ i d. first s e i d refl) past
      | inr other ↦ dom_same m.seats c most kx ky rest x.place y.place (signalled e v x.place) (signalled e w y.place)
          (λ j d. signal_off c e d rest x v other right j) (λ j d. signal_off c e d rest y w other may.1 j) past
    ])
line_dom m c most kx ky (Broadcast s e) v w rest x y right first f may h =
    let can = can_stand m x y (Broadcast s e) w rest f may in
    let is = sender_is m x y (Broadcast s e ∷ rest) s e f can in
    let past = dom_past m.seats c most kx ky (Broadcast s e) rest x.place y.place can.seat refl
    (calm c (x.place s) (x.place s) refl is) (calm c (x.place s) (y.place s) (f.place s) is) h in
    let seen = foreseen_past s x.place false rest (sender_here m x y (Broadcast s e ∷ rest) s e f may) f.foreseen in
    free_line m.seats c most kx ky rest (λ j. woken e (x.place j)) (λ j. woken e (y.place j))
    (elim (cases_Bool (e == c)) as (λ k. Dom m.seats c (λ j. woken e (x.place j)) (λ j. woken e (y.place j)) rest
    most kx ky) [
      | inl same ↦ dom_nobody m.seats c most kx ky rest (λ j. woken e (x.place j)) (λ j. woken e (y.place j))
          (λ j d. woken_calm c e j d (x.place j) rest (seen j) same) past.cost
      | inr other ↦ dom_same m.seats c most kx ky rest x.place y.place (λ j. woken e (x.place j))
          (λ j. woken e (y.place j))
          (λ j d. ap (λ b. b && resumes_within j d rest) (woken_other c e (x.place j) other))
          (λ j d. ap (λ b. b && resumes_within j d rest) (woken_other c e (y.place j) other)) past
    ])
line_dom m c most kx ky (Until s p) v w rest x y right first f may h = absurd may
line_dom m c most kx ky (Act s op r) v w rest x y right first f may h =
    let holds : x.place s ≡ Active = f.holder s (f.lock ∙ may.2) in
    free_line m.seats c most kx ky rest x.place y.place
    (dom_past m.seats c most kx ky (Act s op r) rest x.place y.place may.0 refl
    (calm c (x.place s) (x.place s) refl (inl holds)) (calm c (x.place s) (y.place s) (f.place s) (inl holds)) h)

-- ---- silent steps of the other run

pub out_dom : (n c most kx ky s : ℕ) (lines : List LogLine) (f g : ℕ → Place) → Dom n c f g lines most kx ky
    → Dom n c f (with_place s (run_out (g s)) g) lines most kx ky
out_dom n c most kx ky s lines f g h =
    dom_same n c most kx ky lines f g f (with_place s (run_out (g s)) g) (λ j d. refl)
    (λ j d. due_same s (run_out (g s)) g c d lines (asleep_out c (g s)) j) h

pub unasked_dom : (n c most kx ky s : ℕ) (lines : List LogLine) (f g : ℕ → Place) → Sleeps (g s)
    → Dom n c f g lines most kx ky
    → Dom n c f (with_place s (woken_unasked (g s)) g) lines most kx (ky + one (waits_on c (g s)))
unasked_dom n c most kx ky s lines f g sleeps h = record {
  cost = let a = h.cost in omega arith;
  due = λ d le. let a = h.due d le in let b = unasked_drop n s (g s) g c d lines sleeps refl in omega arith;
}
