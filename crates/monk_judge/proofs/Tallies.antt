-- The counts over a run, after one more line
use Rattle.std.proofs.Common.{◌≡◌, ℕ, ◌<◌, ◌≤◌, ◌+◌, List, [], ◌∷◌, ◌++◌, Option, Some, None, length, get_or, take, sym, ap, subst, arith, ◌∙◌}
use Rattle.monk_object.specs.Object.{Object}
use Rattle.monk_logs.specs.declared.text.line.LogLine.{LogLine, TheVariants.Enter}
use Rattle.monk_judge.specs.declared.told.Told.TheVariants as told
use Rattle.monk_judge.proofs.{Among.last_here, Among.last_skip, Missing.more_many}
use Rattle.monk_judge.proofs.Reaching.{Reached, many_moments, moments_next, stands_there}
use Rattle.monk_judge.proofs.Moments.{Meets, line_meets, moment_kept, moment_last}
use Rattle.monk_judge.specs.{Among.NamesLast, Ends.runs_out, Judged.after_all}
use Rattle.monk_judge.specs.Moments.{Moment, moment, moments}
use Rattle.monk_judge.specs.declared.{tally.Tally.Tally, told.Told.Told, wait_end.WaitEnd.WaitEnd}
use Rattle.monk_judge.specs.declared.step.Step.{Step, TheVariants.Tells, TheVariants.RunsOut, TheVariants.WakesUnasked}
use Rattle.monk_judge.specs.Run.{Setting, State, IsRun, after, lines_of, opening, unasked}
use Rattle.monk_judge.specs.Reports.{IsCounted, IsUnheard, NamesFirstNeed, NamesLastUnheard}
use Rattle.monk_judge.specs.Shown.{Shown, Takes, own_steps, setting_of, state_of, whom}
use Rattle.monk_judge.specs.Counts.{finds_nobody, first_after, last_after, passed_in, passes, spurious_in, total}
use Rattle.monk_judge.specs.Counts.{unheard_in, wakes, wakes_in}
use Rattle.std.proofs.lemmas.Bool.Decides.{nat_tests}

-- ---- counts of two parts of a run

total_on : (w : State → Step → ℕ) (m : Setting) (x : State) (a b : List Step)
    → total w m x (a ++ b) ≡ total w m x a + total w m (after_all m x a) b
total_on w m x [] b = omega arith
total_on w m x (step ∷ a) b = let more = total_on w m (after m x step) a b in omega arith

unasked_both : (a b : List Step) → unasked (a ++ b) ≡ unasked a + unasked b
unasked_both [] b = omega arith
unasked_both (Tells l w ∷ a) b = unasked_both a b
unasked_both (RunsOut s ∷ a) b = unasked_both a b
unasked_both (WakesUnasked s ∷ a) b = let more = unasked_both a b in omega arith

-- the counts after one more line
pub record CountsMore (i : ℕ) (t u : Tally) (what : Told) : Type 0 where
  pub served : u.served ≡ t.served + wakes_in what
  pub passed : u.passed ≡ t.passed + passed_in what
  pub spurious : u.spurious ≡ t.spurious + spurious_in what
  pub unheard : u.unheard ≡ t.unheard + unheard_in what
  pub first : u.first_spurious ≡ first_after t.first_spurious i what
  pub last : u.last_unheard ≡ last_after t.last_unheard i what
  pub room : u.served + u.passed + u.spurious + u.unheard ≤ t.served + t.passed + t.spurious + t.unheard + 255

-- nothing is counted yet
pub record IsNothing (t : Tally) : Type 0 where
  pub served : t.served ≡ 0
  pub passed : t.passed ≡ 0
  pub spurious : t.spurious ≡ 0
  pub unheard : t.unheard ≡ 0
  pub first : t.first_spurious ≡ None
  pub last : t.last_unheard ≡ None

-- sums
both : (a b c d e : ℕ) → a ≡ b + c → b ≡ d → e ≡ c → a ≡ d + e
both a b c d e h k l = omega arith

counts_by : (m : Setting) (d : List ℕ) (steps own : List Step) (x : State) (w : State → Step → ℕ) (new old told : ℕ)
    → x ≡ after_all m (opening d) steps → new ≡ old + told → old ≡ total w m (opening d) steps → total w m x own ≡ told
    → new ≡ total w m (opening d) (steps ++ own)
counts_by m d steps own x w new old told leads h k l = grind (arith, nat_tests, both, total_on)

-- the first line that needs a wake-up that nobody sent
first_of : (m : Setting) (d : List ℕ) (lines : List LogLine) (i : ℕ) (steps own : List Step) (what : Told)
    → IsRun m (opening d) steps → lines_of steps ≡ take i lines
    → ((others : List Step) → IsRun m (opening d) others → lines_of others ≡ take (i + 1) lines
    → unasked (steps ++ own) ≤ unasked others)
    → unasked (steps ++ own) ≡ spurious_in what → unasked steps ≡ 0
    → NamesFirstNeed m d lines (first_after None i what) (unasked (steps ++ own))
first_of m d lines i steps own told.Plain run tells least spurious free = spurious
first_of m d lines i steps own told.Passed run tells least spurious free = spurious
first_of m d lines i steps own told.Unheard run tells least spurious free = spurious
first_of m d lines i steps own (told.Woke s) run tells least spurious free = spurious
first_of m d lines i steps own (told.WokeAll n) run tells least spurious free = spurious
first_of m d lines i steps own told.Spurious run tells least spurious free = record {
  steps = steps;
  run = run;
  told = tells;
  free = free;
  needs = λ others other same. let a = least others other same in omega arith;
}

first_by : (m : Setting) (d : List ℕ) (lines : List LogLine) (i : ℕ) (steps own : List Step) (was : Option ℕ)
    (what : Told)
    → IsRun m (opening d) steps → lines_of steps ≡ take i lines
    → ((others : List Step) → IsRun m (opening d) others → lines_of others ≡ take (i + 1) lines
    → unasked (steps ++ own) ≤ unasked others)
    → unasked own ≡ spurious_in what → NamesFirstNeed m d lines was (unasked steps)
    → NamesFirstNeed m d lines (first_after was i what) (unasked (steps ++ own))
first_by m d lines i steps own (Some k) what run told least spurious h = h
first_by m d lines i steps own None what run told least spurious h = first_of m d lines i steps own what run told
    least (let a = unasked_both steps own in omega arith) h

-- the last signal that finds nobody
unheard_not : (n a : ℕ) → a ≡ 0 → a ≡ 1 → ⊥
unheard_not n a none one = absurd (omega arith)

last_with : (n i : ℕ) (all : List Moment) (t : Moment) (found : Option ℕ) → length all ≡ i
    → NamesLastUnheard n all found
    → finds_nobody n t.before (Tells t.line t.whom) ≡ 0
    → NamesLast (λ k. IsUnheard n (moment (all ++ t ∷ []) k)) (i + 1) found
last_with n i all t found many h none = grind (arith, nat_tests, last_skip, moment_kept, unheard_not, moment_last)

last_by : (n i : ℕ) (all : List Moment) (t : Moment) (found : Option ℕ) (what : Told) → length all ≡ i
    → NamesLastUnheard n all found → finds_nobody n t.before (Tells t.line t.whom) ≡ unheard_in what
    → NamesLast (λ k. IsUnheard n (moment (all ++ t ∷ []) k)) (i + 1) (last_after found i what)
last_by n i all t found what many h is = grind (arith, nat_tests, last_with, last_here, moment_last)

last_next : (o : Object) (m : Setting) (d : List ℕ) (lines : List LogLine) (i : ℕ) (v : Shown) (steps own : List Step)
    (l : LogLine) (found : Option ℕ) (what : Told)
    → i < length lines → Reached o m d lines i v steps → (meets : Meets m (state_of v) l own)
    → NamesLastUnheard m.seats (moments m (opening d) steps) found
    → finds_nobody m.seats meets.t.before (Tells meets.t.line meets.t.whom) ≡ unheard_in what
    → NamesLastUnheard m.seats (moments m (opening d) (steps ++ own)) (last_after found i what)
last_next o m d lines i v steps own l found what lt was meets h is =
    let all = moments m (opening d) steps in
    let many = many_moments o m d lines i v steps (omega arith) was in
    subst (λ k. NamesLastUnheard m.seats k (last_after found i what))
    (sym (moments_next o m d lines i v steps own l was meets))
    (subst (λ n. NamesLast (λ k. IsUnheard m.seats (moment (all ++ meets.t ∷ []) k)) n (last_after found i what))
    (ap (λ k. k + 1) (sym many) ∙ sym (more_many all meets.t))
    (last_by m.seats i all meets.t found what many h is))

pub counted_next : (o : Object) (m : Setting) (d : List ℕ) (lines : List LogLine) (i : ℕ) (v new : Shown)
    (steps : List Step) (e : WaitEnd) (t u : Tally) (what : Told)
    → i < length lines → Reached o m d lines i v steps → IsCounted m d lines steps t
    → Takes o v new (get_or lines i (Enter 0)) e what → CountsMore i t u what
    → ((others : List Step) → IsRun m (opening d) others → lines_of others ≡ take (i + 1) lines
    → unasked (steps ++ own_steps v (get_or lines i (Enter 0)) e what) ≤ unasked others)
    → IsCounted m d lines (steps ++ own_steps v (get_or lines i (Enter 0)) e what) u
counted_next o m d lines i v new steps e t u what lt was counted does more least =
    let x = state_of v in
    let l = get_or lines i (Enter 0) in
    let own = own_steps v l e what in
    let sums = λ (w : ℕ → State → Step → ℕ) (new old told : ℕ) (a : new ≡ old + told)
    (b : old ≡ total (w m.seats) m (opening d) steps)
    (c : total (w (length v.places)) (setting_of v o) x own ≡ told).
    counts_by m d steps own x (w m.seats) new old told was.covers.leads a b
    (subst (λ (k : Setting). total (w k.seats) k x own ≡ told) was.same c) in
    let spurious : u.spurious ≡ unasked (steps ++ own) = grind (arith, nat_tests, both, unasked_both) in
    let meets = line_meets m x l (whom what) (runs_out e) (stands_there o m d lines i v new steps l e what was does) in
    record {
      spurious = spurious;
      served = sums wakes u.served t.served (wakes_in what) more.served counted.served does.names.served;
      passed = sums passes u.passed t.passed (passed_in what) more.passed counted.passed does.names.passed;
      unheard = sums finds_nobody u.unheard t.unheard (unheard_in what) more.unheard counted.unheard
          does.names.unheard;
      first = grind (arith, nat_tests, first_by);
      last = subst (λ k. NamesLastUnheard m.seats (moments m (opening d) (steps ++ own)) k) (sym more.last)
          (last_next o m d lines i v steps own l t.last_unheard what lt was meets counted.last
          (meets.nobody
          ∙ subst (λ (k : Setting). total (finds_nobody k.seats) k x own ≡ unheard_in what) was.same
          does.names.unheard));
    }
