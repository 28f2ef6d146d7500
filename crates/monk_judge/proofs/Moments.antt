-- What the lines of a run find, after one more line
use Rattle.std.proofs.Common.{◌≡◌, ℕ, ◌<◌, Bool, true, false, List, [], ◌∷◌, ◌++◌, Option, None, length, refl, arith}
use Rattle.std.proofs.{Math.ListN.get_or-append, Math.Seq.get_or-append_seam, lemmas.Bool.Decides.nat_tests}
use Rattle.monk_logs.specs.declared.text.line.LogLine.{LogLine}
use Rattle.monk_logs.specs.declared.text.line.LogLine.TheVariants.{Enter, Resume, Lapse, Leave, Wait, Signal, Broadcast}
use Rattle.monk_logs.specs.declared.text.line.LogLine.TheVariants.{Until, Act}
use Rattle.monk_judge.specs.{Moments.Moment, Moments.moment, Moments.moments, Moments.settled, Run.Setting, Run.State}
use Rattle.monk_judge.specs.{Run.after, Run.lines_of, Run.lets_go, Run.takes, Counts.finds_nobody, Counts.total}
use Rattle.monk_judge.specs.Judged.{CanStand, after_all, running_out, steps_at, waking}
use Rattle.monk_judge.specs.declared.step.Step.{Step, TheVariants.Tells, TheVariants.RunsOut, TheVariants.WakesUnasked}
use Rattle.monk_judge.specs.declared.place.Place.{Place}
use Rattle.monk_judge.specs.declared.place.Place.TheVariants.{Outside, Active, Waiting, Woken, RanOut}

-- ---- two parts of a run

-- the first step isn't a wait that runs out
abbrev pub NoneOut : List Step → Type 0
NoneOut [] = Unit {0}
NoneOut (Tells l w ∷ steps) = Unit {0}
NoneOut (RunsOut s ∷ steps) = ⊥
NoneOut (WakesUnasked s ∷ steps) = Unit {0}

settled_at : (m : Setting) (x : State) (b : List Step) → NoneOut b → settled m x b ≡ x
settled_at m x b h = grind (arith, nat_tests)

settled_on : (m : Setting) (x : State) (a b : List Step) → NoneOut b → settled m x (a ++ b) ≡ settled m x a
settled_on m x [] b h = settled_at m x b h
settled_on m x (Tells l w ∷ a) b h = refl
settled_on m x (RunsOut s ∷ a) b h = settled_on m (after m x (RunsOut s)) a b h
settled_on m x (WakesUnasked s ∷ a) b h = refl

pub moments_on : (m : Setting) (x : State) (a b : List Step) → NoneOut b
    → moments m x (a ++ b) ≡ moments m x a ++ moments m (after_all m x a) b
moments_on m x [] b h = refl
moments_on m x (Tells l w ∷ a) b h =
    let y = after m x (Tells l w) in
    λ i. record { line = l; whom = w; before = x; behind = settled_on m y a b h i } ∷ moments_on m y a b h i
moments_on m x (RunsOut s ∷ a) b h = moments_on m (after m x (RunsOut s)) a b h
moments_on m x (WakesUnasked s ∷ a) b h = moments_on m (after m x (WakesUnasked s)) a b h

pub moments_many : (m : Setting) (x : State) (steps : List Step) → length (moments m x steps) ≡ length (lines_of steps)
moments_many m x [] = refl
moments_many m x (Tells l w ∷ steps) = let a = moments_many m (after m x (Tells l w)) steps in omega arith
moments_many m x (RunsOut s ∷ steps) = moments_many m (after m x (RunsOut s)) steps
moments_many m x (WakesUnasked s ∷ steps) = moments_many m (after m x (WakesUnasked s)) steps

-- ---- by index

pub moment_kept : (all : List Moment) (t : Moment) (k : ℕ) → k < length all → moment (all ++ t ∷ []) k ≡ moment all k
moment_kept all t k lt = grind (arith, nat_tests, get_or-append)

pub moment_last : (all : List Moment) (t : Moment) → moment (all ++ t ∷ []) (length all) ≡ t
moment_last all t = grind (arith, nat_tests, get_or-append_seam)

-- ---- the steps of one line

-- these steps tell only that line, and this is its moment
pub record Meets (m : Setting) (x : State) (l : LogLine) (own : List Step) : Type 0 where
  pub t : Moment
  pub none_out : NoneOut own
  pub is : moments m x own ≡ t ∷ []
  pub line : t.line ≡ l
  pub lock : t.before.lock ≡ x.lock
  pub behind : t.behind ≡ after_all m x own
  pub nobody : finds_nobody m.seats t.before (Tells t.line t.whom) ≡ total (finds_nobody m.seats) m x own

-- a line that has one step
alone : (m : Setting) (x : State) (l : LogLine) (w : Option ℕ) → Meets m x l (Tells l w ∷ [])
alone m x l w = record {
  t = record { line = l; whom = w; before = x; behind = after m x (Tells l w) };
  none_out = tt;
  is = refl;
  line = refl;
  lock = refl;
  behind = refl;
  nobody = omega arith;
}

back_meets : (m : Setting) (x : State) (s : ℕ) (p : Place)
    → Meets m x (Resume s) (waking s p ++ Tells (Resume s) None ∷ [])
back_meets m x s Outside = alone m x (Resume s) None
back_meets m x s Active = alone m x (Resume s) None
back_meets m x s (Waiting c) = record {
  t = record {
    line = Resume s;
    whom = None;
    before = after m x (WakesUnasked s);
    behind = takes s (after m x (WakesUnasked s));
  };
  none_out = tt;
  is = refl;
  line = refl;
  lock = refl;
  behind = refl;
  nobody = omega arith;
}
back_meets m x s (Woken c) = alone m x (Resume s) None
back_meets m x s (RanOut c) = alone m x (Resume s) None

wait_meets : (m : Setting) (x : State) (s c : ℕ) (b : Bool)
    → Meets m x (Wait s c) (Tells (Wait s c) None ∷ running_out s b)
wait_meets m x s c false = alone m x (Wait s c) None
wait_meets m x s c true = record {
  t = record {
    line = Wait s c;
    whom = None;
    before = x;
    behind = after m (lets_go s (Waiting c) x) (RunsOut s);
  };
  none_out = tt;
  is = refl;
  line = refl;
  lock = refl;
  behind = refl;
  nobody = omega arith;
}

pub line_meets : (m : Setting) (x : State) (l : LogLine) (w : Option ℕ) (b : Bool) → CanStand m x l
    → Meets m x l (steps_at x l w b)
line_meets m x (Enter s) w b can = alone m x (Enter s) None
line_meets m x (Resume s) w b can = back_meets m x s (x.place s)
line_meets m x (Lapse s) w b can = alone m x (Lapse s) None
line_meets m x (Leave s) w b can = alone m x (Leave s) None
line_meets m x (Wait s c) w b can = wait_meets m x s c b
line_meets m x (Signal s c) w b can = alone m x (Signal s c) w
line_meets m x (Broadcast s c) w b can = alone m x (Broadcast s c) None
line_meets m x (Until s p) w b can = absurd can
line_meets m x (Act s op r) w b can = alone m x (Act s op r) None
