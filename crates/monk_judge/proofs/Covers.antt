-- The judge's state covers each run of the lines so far
use Rattle.std.proofs.Common.{◌≡◌, ℕ, suc, ◌<◌, Bool, true, List, [], ◌∷◌, ◌++◌, Option, length, get_or, take, drop, ◌+◌, add-one, arith, refl, sym, ap, subst, ◌∙◌}
use Rattle.std.proofs.{Math.Seq.drop-cons, lemmas.Grind.common_steps, lemmas.Bool.Decides.nat_tests}
use Rattle.monk_logs.specs.Log.{line_seat}
use Rattle.monk_logs.specs.declared.text.line.LogLine.{LogLine, TheVariants.Enter, TheVariants.Signal}
use Rattle.monk_judge.proofs.{Sound.line_run, Sound.line_told, Sound.lines_on, Sound.run_on, Least.Dom}
use Rattle.monk_judge.proofs.Complete.{Follows, after_on, can_stand, class_out, class_unasked, follow_line, no_lock}
use Rattle.monk_judge.proofs.Complete.{silent}
use Rattle.monk_judge.proofs.LeastLaw.{GoesOnWithin, cost_on, line_dom, out_dom, unasked_dom, unasked_on}
use Rattle.monk_judge.specs.{Counts.one, Counts.waits_on, Ends.lapses_next, Ends.resumes_within, Explains.IsExplainable}
use Rattle.monk_judge.specs.Judged.{CanStand, IsRight, after_all, steps_at}
use Rattle.monk_judge.specs.declared.step.Step.{Step, TheVariants.Tells, TheVariants.RunsOut, TheVariants.WakesUnasked}
use Rattle.monk_judge.specs.declared.place.Place.TheVariants.{Waiting}
use Rattle.monk_judge.specs.Run.{Setting, State, May, after, IsRun, lines_of, opening, run_out, woken_unasked}

-- the steps are a run of those lines and lead to the state; compared with any other run of them,
-- the state is the judge's, and on no condition were more threads woken unasked
pub record Covers (m : Setting) (d : List ℕ) (before rest : List LogLine) (steps : List Step) (x : State) : Type 0 where
  pub run : IsRun m (opening d) steps
  pub told : lines_of steps ≡ before
  pub leads : x ≡ after_all m (opening d) steps
  pub follows : (others : List Step) → IsRun m (opening d) others → lines_of others ≡ before
      → Follows x (after_all m (opening d) others) rest
  pub least : (others : List Step) → IsRun m (opening d) others → lines_of others ≡ before → (c : ℕ)
      → Dom m.seats c x.place (after_all m (opening d) others).place rest (length rest)
      (unasked_on m c (opening d) steps) (unasked_on m c (opening d) others)

-- steps that tell the lines before a line, that line, and the silent steps after it
record Split (steps : List Step) (before : List LogLine) (l : LogLine) : Type 0 where
  first : List Step
  whom : Option ℕ
  more : List Step
  is : steps ≡ first ++ Tells l whom ∷ more
  told : lines_of first ≡ before
  none : lines_of more ≡ []

head_same : (k l : LogLine) (a b : List LogLine) → k ∷ a ≡ l ∷ b → k ≡ l
head_same k l a b e = cc

tail_same : (k l : LogLine) (a b : List LogLine) → k ∷ a ≡ l ∷ b → a ≡ b
tail_same k l a b e = cc

no_lines : (A : Type 0) (l : LogLine) (a e : List LogLine) → e ≡ [] → e ≡ l ∷ a → A
no_lines A l a e h k = cc

split : (steps : List Step) (before : List LogLine) (l : LogLine) → lines_of steps ≡ before ++ l ∷ []
    → Split steps before l
split [] [] l e = no_lines _ l [] [] refl e
split [] (b ∷ before) l e = no_lines _ b (before ++ l ∷ []) [] refl e
split (Tells k v ∷ steps) [] l e = record {
  first = [];
  whom = v;
  more = steps;
  is = ap (λ j. Tells j v ∷ steps) (head_same k l (lines_of steps) [] e);
  told = refl;
  none = tail_same k l (lines_of steps) [] e;
}
split (Tells k v ∷ steps) (b ∷ before) l e =
    let s = split steps before l (tail_same k b (lines_of steps) (before ++ l ∷ []) e) in
    record {
      first = Tells k v ∷ s.first;
      whom = s.whom;
      more = s.more;
      is = ap (λ j. Tells k v ∷ j) s.is;
      told = grind (arith, nat_tests, head_same);
      none = s.none;
    }
split (RunsOut j ∷ steps) before l e =
    let s = split steps before l e in
    record {
      first = RunsOut j ∷ s.first;
      whom = s.whom;
      more = s.more;
      is = ap (λ k. RunsOut j ∷ k) s.is;
      told = s.told;
      none = s.none;
    }
split (WakesUnasked j ∷ steps) before l e =
    let s = split steps before l e in
    record {
      first = WakesUnasked j ∷ s.first;
      whom = s.whom;
      more = s.more;
      is = ap (λ k. WakesUnasked j ∷ k) s.is;
      told = s.told;
      none = s.none;
    }

run_parts : (m : Setting) (x : State) (a b : List Step) → IsRun m x (a ++ b) → IsRun m x a × IsRun m (after_all m x a) b
run_parts m x [] b h = (tt, h)
run_parts m x (step ∷ a) b h = let p = run_parts m (after m x step) a b h.1 in ((h.0, p.0), p.1)

silent_all : (m : Setting) (x y : State) (rest : List LogLine) (steps : List Step) → lines_of steps ≡ []
    → Follows x y rest
    → Follows x (after_all m y steps) rest
silent_all m x y rest [] e f = f
silent_all m x y rest (Tells l w ∷ steps) e f = no_lines _ l (lines_of steps) (l ∷ lines_of steps) e refl
silent_all m x y rest (RunsOut s ∷ steps) e f =
    silent_all m x (after m y (RunsOut s)) rest steps e
    (silent x y s (run_out (y.place s)) rest (class_out (y.place s)) f)
silent_all m x y rest (WakesUnasked s ∷ steps) e f =
    silent_all m x (after m y (WakesUnasked s)) rest steps e
    (silent x y s (woken_unasked (y.place s)) rest (class_unasked (y.place s)) f)

-- the silent steps of the other run change nothing
abbrev pub Beats : Setting → ℕ → State → State → List LogLine → ℕ → ℕ → Type 0
Beats m c x y rest kx ky = Dom m.seats c x.place y.place rest (length rest) kx ky

silent_beats : (m : Setting) (c : ℕ) (x y : State) (rest : List LogLine) (steps : List Step) (kx ky : ℕ)
    → lines_of steps ≡ []
    → IsRun m y steps → Beats m c x y rest kx ky
    → Beats m c x (after_all m y steps) rest kx (ky + unasked_on m c y steps)
silent_beats m c x y rest [] kx ky e run h =
    subst (λ k. Beats m c x y rest kx k) (let z : ky ≡ ky + 0 = omega arith in z) h
silent_beats m c x y rest (Tells l w ∷ steps) kx ky e run h = no_lines _ l (lines_of steps) (l ∷ lines_of steps) e refl
silent_beats m c x y rest (RunsOut s ∷ steps) kx ky e run h =
    silent_beats m c x (after m y (RunsOut s)) rest steps kx ky e run.1
    (out_dom m.seats c (length rest) kx ky s rest x.place y.place h)
silent_beats m c x y rest (WakesUnasked s ∷ steps) kx ky e run h =
    let one_more = one (waits_on c (y.place s)) in
    let z = after m y (WakesUnasked s) in
    let first = unasked_dom m.seats c (length rest) kx ky s rest x.place y.place run.0 h in
    let later = silent_beats m c x z rest steps kx (ky + one_more) e run.1 first in
    grind (arith, nat_tests, unasked_on, unasked_dom, later)

-- the thread that the judge's signal wakes goes on as early as any other that sleeps there
abbrev pub GoesFirst : Setting → State → LogLine → Option ℕ → List LogLine → Type 0
GoesFirst m x l w rest = (s e i d : ℕ) → l ≡ Signal s e → x.place i ≡ Waiting e → resumes_within i d rest ≡ true
    → GoesOnWithin m.seats d rest w

-- what is known of another run that tells one more line
record Beside (m : Setting) (d : List ℕ) (steps : List Step) (x : State) (l : LogLine) (rest : List LogLine)
    (others : List Step) : Type 0 where
  before : State
  whom : Option ℕ
  follows : Follows x before (l ∷ rest)
  may : May m before (Tells l whom)
  goes_on : (y : State) → Follows y (after m before (Tells l whom)) rest
      → Follows y (after_all m (opening d) others) rest
  spent : ℕ → ℕ
  least : (c : ℕ)
      → Dom m.seats c x.place before.place (l ∷ rest) (suc (length rest)) (unasked_on m c (opening d) steps) (spent c)
  stays : (c kx : ℕ) (y : State) → Beats m c y (after m before (Tells l whom)) rest kx (spent c)
      → Beats m c y (after_all m (opening d) others) rest kx (unasked_on m c (opening d) others)

beside : (m : Setting) (d : List ℕ) (before : List LogLine) (l : LogLine) (rest : List LogLine) (steps : List Step)
    (x : State)
    → Covers m d before (l ∷ rest) steps x → (others : List Step) → IsRun m (opening d) others
    → lines_of others ≡ before ++ l ∷ []
    → Beside m d steps x l rest others
beside m d before l rest steps x c others run told =
    let s = split others before l told in
    let tail = Tells l s.whom ∷ s.more in
    let parts = run_parts m (opening d) s.first tail (subst (λ k. IsRun m (opening d) k) s.is run) in
    let z = after_all m (opening d) s.first in
    let past = after m z (Tells l s.whom) in
    let leads = ap (λ k. after_all m (opening d) k) s.is ∙ after_on m (opening d) s.first tail in
    record {
      before = z;
      whom = s.whom;
      follows = c.follows s.first parts.0 s.told;
      may = parts.1.0;
      goes_on = λ y f. subst (λ k. Follows y k rest) (sym leads) (silent_all m y past rest s.more s.none f);
      spent = λ cond. unasked_on m cond (opening d) s.first;
      least = λ cond. c.least s.first parts.0 s.told cond;
      stays = λ cond kx y h.
          let cost = ap (λ k. unasked_on m cond (opening d) k) s.is ∙ cost_on m cond (opening d) s.first tail in
          subst (λ k. Beats m cond y (after_all m (opening d) others) rest kx k) (sym cost)
          (subst
          (λ k. Beats m cond y k rest kx (unasked_on m cond (opening d) s.first + unasked_on m cond past s.more))
          (sym leads)
          (silent_beats m cond y past rest s.more kx (unasked_on m cond (opening d) s.first) s.none parts.1.1 h));
    }

-- a line that can follow
pub covers_line : (m : Setting) (d : List ℕ) (before : List LogLine) (l : LogLine) (rest : List LogLine)
    (steps : List Step)
    (x y : State) (w : Option ℕ)
    → Covers m d before (l ∷ rest) steps x → CanStand m x l → IsRight x l w → GoesFirst m x l w rest
    → y ≡ after_all m x (steps_at x l w (lapses_next (line_seat l) rest))
    → Covers m d (before ++ l ∷ []) rest (steps ++ steps_at x l w (lapses_next (line_seat l) rest)) y
covers_line m d before l rest steps x y w c h right first e =
    let lapses = lapses_next (line_seat l) rest in
    let own = steps_at x l w lapses in
    let leads = after_on m (opening d) steps own in
    record {
      run = run_on m (opening d) steps own c.run (subst (λ k. IsRun m k own) c.leads (line_run m x l w lapses right h));
      told = grind (arith, nat_tests, lines_on, line_told);
      leads = e ∙ ap (λ k. after_all m k own) c.leads ∙ sym leads;
      follows = λ others run told.
          let b = beside m d before l rest steps x c others run told in
          subst (λ k. Follows k (after_all m (opening d) others) rest) (sym e)
          (b.goes_on (after_all m x own) (follow_line m x b.before l w b.whom rest right b.follows b.may));
      least = λ others run told cond.
          let b = beside m d before l rest steps x c others run told in
          let kx = unasked_on m cond (opening d) steps + unasked_on m cond x own in
          let cost : kx ≡ unasked_on m cond (opening d) (steps ++ own) =
          grind (arith, nat_tests, unasked_on, cost_on) in
          subst
          (λ k. Beats m cond k (after_all m (opening d) others) rest (unasked_on m cond (opening d) (steps ++ own))
          (unasked_on m cond (opening d) others)) (sym e)
          (subst (λ k. Beats m cond (after_all m x own) (after_all m (opening d) others) rest k
          (unasked_on m cond (opening d) others)) cost
          (b.stays cond kx (after_all m x own)
          (line_dom m cond (length rest) (unasked_on m cond (opening d) steps) (b.spent cond) l w b.whom rest x
          b.before right first b.follows b.may (b.least cond))));
    }

-- a line that can't follow
pub covers_not : (m : Setting) (d : List ℕ) (before : List LogLine) (l : LogLine) (rest : List LogLine)
    (steps : List Step) (x : State)
    → Covers m d before (l ∷ rest) steps x → (CanStand m x l → ⊥) → IsExplainable m (opening d) (before ++ l ∷ []) → ⊥
covers_not m d before l rest steps x c h e =
    let b = beside m d before l rest steps x c e.steps e.run e.told in
    h (can_stand m x b.before l b.whom rest b.follows b.may)

pub covers_explains : (m : Setting) (d : List ℕ) (before rest : List LogLine) (steps : List Step) (x : State)
    → Covers m d before rest steps x → IsExplainable m (opening d) before
covers_explains m d before rest steps x c = record { steps = steps; run = c.run; told = c.told }

-- ---- by index

pub rest_is : (lines : List LogLine) (i : ℕ) → i < length lines
    → drop i lines ≡ get_or lines i (Enter 0) ∷ drop (i + 1) lines
rest_is lines i lt = rw (add-one, drop-cons lines i (Enter 0)) refl

pub past_is : (lines : List LogLine) (i : ℕ) → i < length lines
    → take (i + 1) lines ≡ take i lines ++ get_or lines i (Enter 0) ∷ []
past_is lines i lt = grind (arith, common_steps)

pub covers_opening : (m : Setting) (d : List ℕ) (lines : List LogLine) (x : State) → x ≡ opening d
    → Covers m d [] lines [] x
covers_opening m d lines x e = record {
  run = tt;
  told = refl;
  leads = e;
  follows = λ others run told. subst (λ k. Follows k (after_all m (opening d) others) lines) (sym e)
      (silent_all m (opening d) (opening d) lines others told
      (record {
        lock = refl;
        same_data = refl;
        place = λ j. refl;
        foreseen = λ j. tt;
        holder = grind (arith, nat_tests, no_lock);
      }));
  least = λ others run told c. subst
      (λ k. Beats m c k (after_all m (opening d) others) lines 0 (unasked_on m c (opening d) others)) (sym e)
      (subst (λ k. Beats m c (opening d) (after_all m (opening d) others) lines 0 k)
      (let e : 0 + unasked_on m c (opening d) others ≡ unasked_on m c (opening d) others = omega arith in e)
      (silent_beats m c (opening d) (opening d) lines others 0 0 told run
      (record { cost = omega arith; due = λ k le. omega arith })));
}

-- the lines from that index on, and what holds there
abbrev pub CoversAt : Setting → List ℕ → List LogLine → ℕ → List Step → State → Type 0
CoversAt m d lines i steps x = Covers m d (take i lines) (drop i lines) steps x

pub covers_next : (m : Setting) (d : List ℕ) (lines : List LogLine) (i : ℕ) (steps : List Step) (x y : State)
    (w : Option ℕ) (lapses : Bool)
    → i < length lines → CoversAt m d lines i steps x → CanStand m x (get_or lines i (Enter 0))
    → IsRight x (get_or lines i (Enter 0)) w → GoesFirst m x (get_or lines i (Enter 0)) w (drop (i + 1) lines)
    → y ≡ after_all m x (steps_at x (get_or lines i (Enter 0)) w lapses)
    → lapses ≡ lapses_next (line_seat (get_or lines i (Enter 0))) (drop (i + 1) lines)
    → CoversAt m d lines (i + 1) (steps ++ steps_at x (get_or lines i (Enter 0)) w lapses) y
covers_next m d lines i steps x y w lapses lt c h right first e is =
    let l = get_or lines i (Enter 0) in
    let rest = drop (i + 1) lines in
    subst (λ b. CoversAt m d lines (i + 1) (steps ++ steps_at x l w b) y) (sym is)
    (subst (λ k. Covers m d k rest (steps ++ steps_at x l w (lapses_next (line_seat l) rest)) y)
    (sym (past_is lines i lt))
    (covers_line m d (take i lines) l rest steps x y w
    (subst (λ k. Covers m d (take i lines) k steps x) (rest_is lines i lt) c) h right first
    (e ∙ ap (λ b. after_all m x (steps_at x l w b)) is)))

pub covers_stop : (m : Setting) (d : List ℕ) (lines : List LogLine) (i : ℕ) (steps : List Step) (x : State)
    → i < length lines
    → CoversAt m d lines i steps x → (CanStand m x (get_or lines i (Enter 0)) → ⊥)
    → IsExplainable m (opening d) (take (i + 1) lines) → ⊥
covers_stop m d lines i steps x lt c h e =
    covers_not m d (take i lines) (get_or lines i (Enter 0)) (drop (i + 1) lines) steps x
    (subst (λ k. Covers m d (take i lines) k steps x) (rest_is lines i lt) c) h
    (subst (λ k. IsExplainable m (opening d) k) (past_is lines i lt) e)
