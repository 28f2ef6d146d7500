-- What holds while a judge takes the lines of a log
use Rattle.std.proofs.Common.{◌≡◌, Bool, false, ℕ, ◌<◌, ◌≤◌, ◌+◌, ◌*◌, List, [], ◌++◌, Option, Some, None, length, get_or, sym, ap, subst, arith, ◌∙◌}
use Rattle.std.proofs.lemmas.Bool.Decides.{nat_tests}
use Rattle.monk_object.specs.Object.{Object}
use Rattle.monk_logs.specs.{Crossed.crossed_of, Log.line_seat, declared.crossed.Crossed.Crossed}
use Rattle.monk_logs.specs.{declared.text.line.LogLine.LogLine, declared.text.line.LogLine.TheVariants.Enter}
use Rattle.monk_judge.proofs.{Missing.Known, Missing.known_next, Missing.known_opening, Holding.holder_is, Moves.Moves}
use Rattle.monk_judge.proofs.{Moves.line_moves, Passing.Marks, Passing.MarksMore, Rivals.marks_next, Returning.Hinted}
use Rattle.monk_judge.proofs.{Hinting.hinted_few, Hinting.hinted_next, Moments.line_meets}
use Rattle.monk_judge.proofs.Reaching.{Reached, least_of, many_moments, moments_next, reached_next, reached_opening}
use Rattle.monk_judge.proofs.Reaching.{run_all, run_stop, stands_there}
use Rattle.monk_judge.proofs.Tallies.{CountsMore, IsNothing, counted_next}
use Rattle.monk_judge.specs.{Ends.AreEnds, Ends.runs_out, Missed.LooksAt, Missed.is_from_outside, Moments.Moment}
use Rattle.monk_judge.specs.{Moments.moments, Holding.NamesLastTaking, Holding.holder_by, Judged.CanStand}
use Rattle.monk_judge.specs.{Judged.after_all, Judged.steps_at, Run.Setting, Run.State, Run.opening}
use Rattle.monk_judge.specs.Counts.{is_asleep, sleepers, woken_ones}
use Rattle.monk_judge.specs.Shown.{Refuses, Shown, Takes, own_steps, setting_of, state_of, whom}
use Rattle.monk_judge.specs.declared.{holder.Holder.Holder, misfit.Misfit.Misfit, missed.Missed.Missed}
use Rattle.monk_judge.specs.declared.{overtaking.Hints.Hints, tally.Tally.Tally, told.Told.Told}
use Rattle.monk_judge.specs.declared.{waits_for.WaitsFor.WaitsFor, step.Step.Step}
use Rattle.monk_judge.specs.declared.wait_end.WaitEnd.{WaitEnd, TheVariants.Resumes}
use Rattle.monk_judge.specs.Hints.{ComesBack, AnswersOwn, passed_of}
use Rattle.monk_judge.specs.Reports.{IsCounted, IsReport, IsTaken, NamesFirstNeed, NamesLastUnheard, fitting}

-- ---- the counts so far

pub record Taken (o : Object) (m : Setting) (d : List ℕ) (lines : List LogLine) (means : List WaitsFor) (i : ℕ)
    (v : Shown) (t : Tally) (s : Missed) (passing passed : List (Option ℕ)) (h : Hints) : Type 0 where
  pub steps : List Step
  pub reached : Reached o m d lines i v steps
  pub counted : IsCounted m d lines steps t
  pub missed : Known m.object means (moments m (opening d) steps) s
  pub marks : Marks lines m.seats (moments m (opening d) steps) (state_of v) passing passed
  pub hinted : Hinted lines (moments m (opening d) steps) (state_of v) h
  pub room : t.served + t.passed + t.spurious + t.unheard ≤ 255 * i

pub taken_opening : (o : Object) (m : Setting) (d : List ℕ) (lines : List LogLine) (means : List WaitsFor) (v : Shown)
    (t : Tally) (s : Missed) (passing passed : List (Option ℕ)) (h : Hints)
    → setting_of v o ≡ m
    → length v.ends ≡ length v.places → state_of v ≡ opening d → IsNothing t → s.line ≡ None → s.from_outside ≡ false
    → Marks lines m.seats [] (state_of v) passing passed → Hinted lines [] (state_of v) h
    → Taken o m d lines means 0 v t s passing passed h
taken_opening o m d lines means v t s passing passed h same many fresh none line inside marks hinted = record {
  steps = [];
  reached = reached_opening o m d lines v same many fresh;
  counted = record {
    spurious = none.spurious;
    served = none.served;
    passed = none.passed;
    unheard = none.unheard;
    first = subst (λ k. NamesFirstNeed m d lines k t.spurious) (sym none.first) none.spurious;
    last = subst (λ k. NamesLastUnheard m.seats [] k) (sym none.last) (λ k lt. absurd (omega arith));
  };
  missed = known_opening m.object means s line inside;
  marks = marks;
  hinted = hinted;
  room = let a = none.served in let b = none.passed in let c = none.spurious in let e = none.unheard in omega arith;
}

-- a signal doesn't change the lock
outside_same : (m : Setting) (x : State) (l : LogLine) (w : Option ℕ) (b : Bool)
    → is_from_outside (after_all m x (steps_at x l w b)).lock l ≡ is_from_outside x.lock l
outside_same m x l w b = grind (arith, nat_tests)

missed_next : (o : Object) (m : Setting) (d : List ℕ) (lines : List LogLine) (means : List WaitsFor) (i : ℕ)
    (v new : Shown) (steps : List Step) (e : WaitEnd) (what : Told) (s u : Missed)
    → i < length lines → Reached o m d lines i v steps → Known m.object means (moments m (opening d) steps) s
    → Takes o v new (get_or lines i (Enter 0)) e what → LooksAt o means (get_or lines i (Enter 0)) (state_of new) i s u
    → Known m.object means (moments m (opening d) (steps ++ own_steps v (get_or lines i (Enter 0)) e what)) u
missed_next o m d lines means i v new steps e what s u lt was known does looks =
    let x = state_of v in
    let l = get_or lines i (Enter 0) in
    let own = own_steps v l e what in
    let meets = line_meets m x l (whom what) (runs_out e) (stands_there o m d lines i v new steps l e what was does) in
    let leads = does.leads ∙ ap (λ k. after_all k x own) was.same in
    subst (λ k. Known m.object means k u) (sym (moments_next o m d lines i v steps own l was meets))
    (known_next m.object means (moments m (opening d) steps) meets.t l (state_of new) s u known meets.line
    (meets.behind ∙ sym leads)
    (ap (λ y. is_from_outside y.lock l) leads ∙ outside_same m x l (whom what) (runs_out e)
    ∙ ap (λ k. is_from_outside k l) (sym meets.lock))
    (subst (λ k. LooksAt k means l (state_of new) (length (moments m (opening d) steps)) s u)
    (ap (λ (k : Setting). k.object) was.same)
    (subst (λ k. LooksAt o means l (state_of new) k s u)
    (sym (many_moments o m d lines i v steps (omega arith) was)) looks)))

-- what the program does with a line
pub record Looks (log : List LogLine) (seats i : ℕ) (l : LogLine) (y : State)
    (passing passed newer new : List (Option ℕ)) (h u : Hints) : Type 0 where
  pub marks : MarksMore log seats l y passing passed newer new
  pub on : Option ℕ
  pub told : on ≡ passed_of l passed
  pub mid : Hints
  pub goes : AnswersOwn l h mid
  pub comes : ComesBack l i on mid u

line_within : (m : Setting) (x : State) (l : LogLine) → CanStand m x l → line_seat l < m.seats
line_within m x l can = grind (arith, nat_tests)

record Beside (log : List LogLine) (seats : ℕ) (all : List Moment) (y : State) (passing passed : List (Option ℕ))
    (h : Hints) : Type 0 where
  marks : Marks log seats all y passing passed
  hinted : Hinted log all y h

beside_next : (o : Object) (m : Setting) (d : List ℕ) (lines : List LogLine) (i : ℕ)
    (v new : Shown) (steps : List Step) (e : WaitEnd) (what : Told) (passing passed newer next : List (Option ℕ))
    (h u : Hints) → i < length lines → Reached o m d lines i v steps
    → Marks lines m.seats (moments m (opening d) steps) (state_of v) passing passed
    → Hinted lines (moments m (opening d) steps) (state_of v) h
    → Takes o v new (get_or lines i (Enter 0)) e what
    → Looks lines m.seats i (get_or lines i (Enter 0)) (state_of new) passing passed newer next h u
    → Beside lines m.seats (moments m (opening d) (steps ++ own_steps v (get_or lines i (Enter 0)) e what))
    (state_of new) newer next u
beside_next o m d lines i v new steps e what passing passed newer next h u lt was marks hinted does looks =
    let x = state_of v in
    let l = get_or lines i (Enter 0) in
    let own = own_steps v l e what in
    let all = moments m (opening d) steps in
    let can = stands_there o m d lines i v new steps l e what was does in
    let meets = line_meets m x l (whom what) (runs_out e) can in
    let leads = does.leads ∙ ap (λ k. after_all k x own) was.same in
    let acts = (was.covers.follows steps was.covers.run was.covers.told).holder in
    let moves : Moves x l (state_of new) = grind (arith, nat_tests, Moves, line_moves) in
    let behind = meets.behind ∙ sym leads in
    let within = line_within m x l can in
    let many = many_moments o m d lines i v steps (omega arith) was in
    subst (λ k. Beside lines m.seats k (state_of new) newer next u)
    (sym (moments_next o m d lines i v steps own l was meets))
    (record {
      marks = grind (arith, nat_tests, marks_next);
      hinted = hinted_next lines m.seats all meets.t l x (state_of new) h looks.mid u looks.on passing passed looks.told
          meets.line moves marks within hinted looks.goes
          (subst (λ k. ComesBack l k looks.on looks.mid u) (sym many) looks.comes);
    })

pub taken_next : (o : Object) (m : Setting) (d : List ℕ) (lines : List LogLine) (means : List WaitsFor)
    (ends : List WaitEnd) (i : ℕ) (v new : Shown) (t u : Tally) (s z : Missed)
    (passing passed newer next : List (Option ℕ)) (h g : Hints) (what : Told) → i < length lines
    → AreEnds ends lines → Taken o m d lines means i v t s passing passed h
    → Takes o v new (get_or lines i (Enter 0)) (get_or ends i (Resumes 0)) what → CountsMore i t u what
    → LooksAt o means (get_or lines i (Enter 0)) (state_of new) i s z
    → Looks lines m.seats i (get_or lines i (Enter 0)) (state_of new) passing passed newer next h g
    → Taken o m d lines means (i + 1) new u z newer next g
taken_next o m d lines means ends i v new t u s z passing passed newer next h g what lt are was does more looks hints =
    let e = get_or ends i (Resumes 0) in
    let own = own_steps v (get_or lines i (Enter 0)) e what in
    let then = reached_next o m d lines ends i v new was.steps what lt are was.reached does in
    let beside = beside_next o m d lines i v new was.steps e what passing passed newer next h g lt was.reached
    was.marks was.hinted does hints in
    record {
      steps = was.steps ++ own;
      reached = then;
      counted = counted_next o m d lines i v new was.steps e t u what lt was.reached was.counted does more
          (least_of o m d lines (i + 1) new (was.steps ++ own) then);
      missed = missed_next o m d lines means i v new was.steps e what s z lt was.reached was.missed does looks;
      marks = beside.marks;
      hinted = beside.hinted;
      room = let a = was.room in let b = more.room in omega arith;
    }

-- no more are counted than there are lines
pub hints_few : (o : Object) (m : Setting) (d : List ℕ) (lines : List LogLine) (means : List WaitsFor) (i : ℕ)
    (v : Shown) (t : Tally) (s : Missed) (passing passed : List (Option ℕ)) (h : Hints) → i ≤ length lines
    → Taken o m d lines means i v t s passing passed h → (h.many ≤ i) × (h.again ≤ i)
hints_few o m d lines means i v t s passing passed h le was =
    subst (λ n. (h.many ≤ n) × (h.again ≤ n)) (many_moments o m d lines i v was.steps le was.reached)
    (hinted_few lines (moments m (opening d) was.steps) (state_of v) h was.hinted)

-- ---- the end

pub taken_all : (o : Object) (m : Setting) (d : List ℕ) (lines : List LogLine) (means : List WaitsFor) (i : ℕ)
    (v : Shown) (t : Tally) (s : Missed) (passing passed : List (Option ℕ)) (h : Hints)
    → length lines ≤ i
    → Taken o m d lines means i v t s passing passed h → IsTaken m d lines means None t s.line h v
taken_all o m d lines means i v t s passing passed h all was = record {
  steps = was.steps;
  run = run_all o m d lines i v was.steps all was.reached;
  counted = was.counted;
  missed = was.missed.line;
  overtaken = was.hinted.counts;
  holder = ap (λ (x : State). x.lock) was.reached.covers.leads;
  places = ap (λ (x : State). x.place) was.reached.covers.leads;
  seats = ap (λ (k : Setting). k.seats) was.reached.same;
}

pub taken_stop : (o : Object) (m : Setting) (d : List ℕ) (lines : List LogLine) (means : List WaitsFor) (i : ℕ)
    (v new : Shown) (t : Tally) (s : Missed) (passing passed : List (Option ℕ)) (h : Hints) (f : Misfit)
    → i < length lines → Taken o m d lines means i v t s passing passed h
    → Refuses o v new (get_or lines i (Enter 0)) f.why
    → f.line ≡ i
    → IsTaken m d lines means (Some f) t s.line h new
taken_stop o m d lines means i v new t s passing passed h f lt was refused at = record {
  steps = was.steps;
  run = run_stop o m d lines i v new was.steps f lt was.reached refused at;
  counted = was.counted;
  missed = was.missed.line;
  overtaken = was.hinted.counts;
  holder = refused.lock ∙ ap (λ (x : State). x.lock) was.reached.covers.leads;
  places = grind (arith, nat_tests);
  seats = ap length refused.places ∙ ap (λ (k : Setting). k.seats) was.reached.same;
}

-- the same as a report
pub report_is : (m : Setting) (d : List ℕ) (lines : List LogLine) (means : List WaitsFor) (v : Shown)
    (misfit : Option Misfit) (t : Tally)
    (lock found : Option ℕ) (holder : Option Holder) (asleep woken : ℕ) (missed : Option ℕ) (g : Hints)
    (told : List LogLine) (sleeps : List Bool) (crossed : Option Crossed)
    → IsTaken m d lines means misfit t missed g v → NamesLastTaking (fitting misfit lines) found
    → lock ≡ v.lock → holder ≡ holder_by lock found → asleep ≡ sleepers (length v.places) (state_of v)
    → woken ≡ woken_ones (length v.places) (state_of v) → told ≡ fitting misfit lines
    → ((s : ℕ) → get_or sleeps s false ≡ is_asleep ((state_of v).place s))
    → crossed ≡ crossed_of (λ s. get_or sleeps s false) told
    → IsReport m d lines means (record {
      misfit = misfit;
      tally = record {
        served = t.served;
        passed = t.passed;
        spurious = t.spurious;
        first_spurious = t.first_spurious;
        unheard = t.unheard;
        last_unheard = t.last_unheard;
        overtaken = g.many;
        again = g.again;
        first_not_again = g.first_not_again;
      };
      holder = holder;
      asleep = asleep;
      woken = woken;
      missed = missed;
      crossed = crossed;
    })
report_is m d lines means v misfit t lock found holder asleep woken missed g told sleeps crossed h named holds by sleep
    wake before lie cross = record {
      steps = h.steps;
      run = h.run;
      counted = record {
        spurious = h.counted.spurious;
        served = h.counted.served;
        passed = h.counted.passed;
        unheard = h.counted.unheard;
        first = h.counted.first;
        last = h.counted.last;
      };
      holder = grind (arith, nat_tests, holder_is);
      asleep = grind (arith, nat_tests);
      woken = grind (arith, nat_tests);
      missed = h.missed;
      overtaken = h.overtaken;
      crossed = grind (arith, nat_tests);
    }
