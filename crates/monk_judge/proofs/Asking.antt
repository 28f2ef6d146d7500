-- The judge's run is, but for the wake-ups that nobody sent, what its lines ask for. These come just before their
-- threads come back
use Rattle.std.proofs.Common.{◌≡◌, ℕ, zero, suc, ◌+◌, ◌<◌, ◌≤◌, Bool, true, false, List, [], ◌∷◌, ◌++◌, Option, None, length, get_or, drop, arith, refl, sym, ap, ◌∙◌}
use Rattle.std.proofs.lemmas.{List.append-nil, List.append_assoc, Bool.Decides.nat_tests}
use Rattle.monk_logs.specs.Log.{line_seat}
use Rattle.monk_logs.specs.declared.text.line.LogLine.{LogLine}
use Rattle.monk_logs.specs.declared.text.line.LogLine.TheVariants.{Enter, Resume, Lapse, Leave, Wait, Signal, Broadcast}
use Rattle.monk_logs.specs.declared.text.line.LogLine.TheVariants.{Until, Act}
use Rattle.monk_judge.specs.{Ends.lapses_next, Judged.CanStand, Judged.running_out, Judged.steps_at, Judged.waking}
use Rattle.monk_judge.specs.Asked.{ComeBackAtOnce, TellsFirst, asked, asked_by, asked_of}
use Rattle.monk_judge.specs.declared.step.Step.{Step, TheVariants.Tells, TheVariants.RunsOut, TheVariants.WakesUnasked}
use Rattle.monk_judge.specs.declared.place.Place.{Place}
use Rattle.monk_judge.specs.declared.place.Place.TheVariants.{Outside, Active, Waiting, Woken, RanOut}
use Rattle.monk_judge.specs.Run.{Setting, State}

asked_on : (a b : List Step) → asked (a ++ b) ≡ asked a ++ asked b
asked_on [] b = refl
asked_on (Tells l w ∷ a) b = ap (λ k. Tells l None ∷ k) (asked_on a b)
asked_on (RunsOut s ∷ a) b = ap (λ k. RunsOut s ∷ k) (asked_on a b)
asked_on (WakesUnasked s ∷ a) b = asked_on a b

-- the steps of a line
asked_line : (m : Setting) (x : State) (l : LogLine) (w : Option ℕ) (lapses : Bool) → CanStand m x l
    → asked (steps_at x l w lapses) ≡ asked_of l lapses
asked_line m x l w lapses h = grind (arith, nat_tests)

-- what one more line asks for
by_next : (lines : List LogLine) (i : ℕ) → i < length lines
    → asked_by (suc i) lines
    ≡ asked_by i lines ++ asked_of (get_or lines i (Enter 0)) (lapses_next (line_seat (get_or lines i (Enter 0)))
    (drop (suc i) lines))
by_next [] i lt = absurd (omega arith)
by_next (l ∷ lines) zero lt = append-nil (asked_of l (lapses_next (line_seat l) lines))
by_next (l ∷ lines) (suc i) lt =
    ap (λ k. asked_of l (lapses_next (line_seat l) lines) ++ k) (by_next lines i (omega arith))
    ∙ sym (append_assoc (asked_of l (lapses_next (line_seat l) lines)) (asked_by i lines) _)

-- past the last line nothing is asked for
by_all : (lines : List LogLine) (i : ℕ) → length lines ≤ i → asked_by i lines ≡ asked_by (length lines) lines
by_all [] zero le = refl
by_all [] (suc i) le = refl
by_all (l ∷ lines) zero le = absurd (omega arith)
by_all (l ∷ lines) (suc i) le =
    ap (λ k. asked_of l (lapses_next (line_seat l) lines) ++ k) (by_all lines i (omega arith))

pub asked_all : (lines : List LogLine) (i : ℕ) (steps : List Step) → length lines ≤ i
    → asked steps ≡ asked_by i lines → asked steps ≡ asked_by (length lines) lines
asked_all lines i steps le was = was ∙ by_all lines i le

pub asked_next : (m : Setting) (x : State) (lines : List LogLine) (i : ℕ) (steps : List Step) (w : Option ℕ)
    (lapses : Bool)
    → i < length lines → CanStand m x (get_or lines i (Enter 0))
    → lapses ≡ lapses_next (line_seat (get_or lines i (Enter 0))) (drop (i + 1) lines)
    → asked steps ≡ asked_by i lines
    → asked (steps ++ steps_at x (get_or lines i (Enter 0)) w lapses) ≡ asked_by (i + 1) lines
asked_next m x lines i steps w lapses lt stands ends was = grind (arith, nat_tests, asked_on, asked_line, by_next)

-- ---- who wakes unasked comes back at once

first_on : (l : LogLine) (a b : List Step) → TellsFirst l a → TellsFirst l (a ++ b)
first_on l [] b h = absurd h
first_on l (Tells k w ∷ a) b h = h
first_on l (RunsOut s ∷ a) b h = absurd h
first_on l (WakesUnasked s ∷ a) b h = absurd h

back_on : (a b : List Step) → ComeBackAtOnce a → ComeBackAtOnce b → ComeBackAtOnce (a ++ b)
back_on [] b h k = k
back_on (Tells l w ∷ a) b h k = back_on a b h k
back_on (RunsOut s ∷ a) b h k = back_on a b h k
back_on (WakesUnasked s ∷ a) b h k = (first_on (Resume s) a b h.0, back_on a b h.1 k)

back_waking : (s : ℕ) (p : Place) → ComeBackAtOnce (waking s p ++ Tells (Resume s) None ∷ [])
back_waking s Outside = tt
back_waking s Active = tt
back_waking s (Waiting c) = (refl, tt)
back_waking s (Woken c) = tt
back_waking s (RanOut c) = tt

back_out : (s : ℕ) (b : Bool) → ComeBackAtOnce (running_out s b)
back_out s true = tt
back_out s false = tt

back_line : (m : Setting) (x : State) (l : LogLine) (w : Option ℕ) (lapses : Bool) → CanStand m x l
    → ComeBackAtOnce (steps_at x l w lapses)
back_line m x (Enter s) w lapses h = tt
back_line m x (Resume s) w lapses h = back_waking s (x.place s)
back_line m x (Lapse s) w lapses h = tt
back_line m x (Leave s) w lapses h = tt
back_line m x (Wait s c) w lapses h = back_out s lapses
back_line m x (Signal s c) w lapses h = tt
back_line m x (Broadcast s c) w lapses h = tt
back_line m x (Until s p) w lapses h = absurd h
back_line m x (Act s op r) w lapses h = tt

pub back_next : (m : Setting) (x : State) (l : LogLine) (steps : List Step) (w : Option ℕ) (lapses : Bool)
    → CanStand m x l → ComeBackAtOnce steps → ComeBackAtOnce (steps ++ steps_at x l w lapses)
back_next m x l steps w lapses stands was = back_on steps (steps_at x l w lapses) was (back_line m x l w lapses stands)
