-- The thread that has the lock is the one that took it last
use Rattle.std.proofs.Common.{◌≡◌, ℕ, zero, suc, ◌<◌, ◌⊎◌, inl, inr, true, false, List, [], ◌∷◌, Option, Some, None, length, get_or, refl, arith}
use Rattle.monk_logs.specs.Log.{line_seat}
use Rattle.monk_logs.specs.declared.text.line.LogLine.{LogLine}
use Rattle.monk_logs.specs.declared.text.line.LogLine.TheVariants.{Enter, Resume, Lapse, Leave, Wait, Signal, Broadcast}
use Rattle.monk_logs.specs.declared.text.line.LogLine.TheVariants.{Until, Act}
use Rattle.monk_judge.proofs.Complete.{no_lock}
use Rattle.monk_judge.specs.{Judged.after_all, Run.Setting, Run.State, Run.after, Run.lines_of, Run.opening}
use Rattle.monk_judge.specs.Holding.{IsHolder, NamesLastTaking, holder_by, takes_lock}
use Rattle.monk_judge.specs.declared.step.Step.{Step, TheVariants.Tells, TheVariants.RunsOut, TheVariants.WakesUnasked}
use Rattle.std.proofs.lemmas.Bool.Decides.{nat_tests}

-- nobody takes the lock in these lines
abbrev NoneTakes : List LogLine → Type 0
NoneTakes lines = (k : ℕ) → k < length lines → takes_lock (get_or lines k (Enter 0)) ≡ false

-- the seat is the last that takes it
record TookLast (lines : List LogLine) (s : ℕ) : Type 0 where
  at : ℕ
  within : at < length lines
  takes : takes_lock (get_or lines at (Enter 0)) ≡ true
  seat : line_seat (get_or lines at (Enter 0)) ≡ s
  last : (k : ℕ) → at < k → k < length lines → takes_lock (get_or lines k (Enter 0)) ≡ false

-- the seat had it before, or took it
abbrev Holds : Option ℕ → List LogLine → ℕ → Type 0
Holds lock lines s = ((lock ≡ Some s) × NoneTakes lines) ⊎ TookLast lines s

none_more : (l : LogLine) (lines : List LogLine) → takes_lock l ≡ false → NoneTakes lines → NoneTakes (l ∷ lines)
none_more l lines h none zero lt = h
none_more l lines h none (suc k) lt = none k (omega arith)

last_more : (l : LogLine) (lines : List LogLine) (s : ℕ) (took : TookLast lines s)
    → (k : ℕ) → suc took.at < k → k < length (l ∷ lines) → takes_lock (get_or (l ∷ lines) k (Enter 0)) ≡ false
last_more l lines s took k gt lt = grind (arith, nat_tests)

later : (l : LogLine) (lines : List LogLine) (s : ℕ) → TookLast lines s → TookLast (l ∷ lines) s
later l lines s took = record {
  at = suc took.at;
  within = let a = took.within in omega arith;
  takes = took.takes;
  seat = took.seat;
  last = last_more l lines s took;
}

first_last : (l : LogLine) (lines : List LogLine) → NoneTakes lines
    → (k : ℕ) → 0 < k → k < length (l ∷ lines) → takes_lock (get_or (l ∷ lines) k (Enter 0)) ≡ false
first_last l lines none k gt lt = grind (arith, nat_tests)

some_is : (j s : ℕ) → Some j ≡ Some s → j ≡ s
some_is j s e = cc

-- a line that takes the lock, one that lets it go, and any other
took_it : (lock : Option ℕ) (l : LogLine) (lines : List LogLine) (s : ℕ) → takes_lock l ≡ true
    → Holds (Some (line_seat l)) lines s → Holds lock (l ∷ lines) s
took_it lock l lines s takes h =
    elim h as (λ k. Holds lock (l ∷ lines) s) [
      | inl none ↦ inr (record {
        at = 0;
        within = omega arith;
        takes = takes;
        seat = some_is (line_seat l) s none.0;
        last = first_last l lines none.1;
      })
      | inr took ↦ inr (later l lines s took)
    ]

let_go : (lock : Option ℕ) (l : LogLine) (lines : List LogLine) (s : ℕ) → Holds None lines s → Holds lock (l ∷ lines) s
let_go lock l lines s h =
    elim h as (λ k. Holds lock (l ∷ lines) s)
    [ inl none ↦ no_lock s _ None refl none.0 | inr took ↦ inr (later l lines s took) ]

kept : (lock : Option ℕ) (l : LogLine) (lines : List LogLine) (s : ℕ) → takes_lock l ≡ false → Holds lock lines s
    → Holds lock (l ∷ lines) s
kept lock l lines s plain h =
    elim h as (λ k. Holds lock (l ∷ lines) s) [
      | inl none ↦ inl (none.0, none_more l lines plain none.1)
      | inr took ↦ inr (later l lines s took)
    ]

held_line : (m : Setting) (x : State) (l : LogLine) (w : Option ℕ) (lines : List LogLine) (s : ℕ)
    → Holds (after m x (Tells l w)).lock lines s → Holds x.lock (l ∷ lines) s
held_line m x (Enter j) w lines s h = took_it x.lock (Enter j) lines s refl h
held_line m x (Resume j) w lines s h = took_it x.lock (Resume j) lines s refl h
held_line m x (Lapse j) w lines s h = took_it x.lock (Lapse j) lines s refl h
held_line m x (Leave j) w lines s h = let_go x.lock (Leave j) lines s h
held_line m x (Wait j c) w lines s h = let_go x.lock (Wait j c) lines s h
held_line m x (Signal j c) w lines s h = kept x.lock (Signal j c) lines s refl h
held_line m x (Broadcast j c) w lines s h = kept x.lock (Broadcast j c) lines s refl h
held_line m x (Until j p) w lines s h = kept x.lock (Until j p) lines s refl h
held_line m x (Act j op r) w lines s h = kept x.lock (Act j op r) lines s refl h

held : (m : Setting) (x : State) (steps : List Step) (s : ℕ) → (after_all m x steps).lock ≡ Some s
    → Holds x.lock (lines_of steps) s
held m x [] s h = inl (h, λ k lt. absurd (omega arith))
held m x (Tells l w ∷ steps) s h = held_line m x l w (lines_of steps) s (held m (after m x (Tells l w)) steps s h)
held m x (RunsOut j ∷ steps) s h = held m (after m x (RunsOut j)) steps s h
held m x (WakesUnasked j ∷ steps) s h = held m (after m x (WakesUnasked j)) steps s h

took_last : (m : Setting) (d : List ℕ) (steps : List Step) (s : ℕ) → (after_all m (opening d) steps).lock ≡ Some s
    → TookLast (lines_of steps) s
took_last m d steps s h =
    elim (held m (opening d) steps s h) as (λ k. TookLast (lines_of steps) s)
    [ inl none ↦ no_lock s _ None refl none.0 | inr took ↦ took ]

-- ---- in the words of the report

-- the last line that is named is that seat's
last_is : (lines : List LogLine) (s k : ℕ) → TookLast lines s → NamesLastTaking lines (Some k)
    → line_seat (get_or lines k (Enter 0)) ≡ s
last_is lines s k took named = grind (arith, nat_tests)

holder_of : (lines : List LogLine) (lock found : Option ℕ) → ((s : ℕ) → lock ≡ Some s → TookLast lines s)
    → NamesLastTaking lines found → IsHolder lines lock (holder_by lock found)
holder_of lines None found took named = refl
holder_of lines (Some s) None took named =
    let t = took s refl in
    absurd (named t.at t.within t.takes)
holder_of lines (Some s) (Some k) took named = (refl, named, last_is lines s k (took s refl) named)

pub holder_is : (m : Setting) (d : List ℕ) (steps : List Step) (lines : List LogLine) (lock found : Option ℕ)
    → lines_of steps ≡ lines → lock ≡ (after_all m (opening d) steps).lock → NamesLastTaking lines found
    → IsHolder lines (after_all m (opening d) steps).lock (holder_by lock found)
holder_is m d steps lines lock found told same named = grind (arith, nat_tests, holder_of, took_last)
