-- The steps of refused acts, one more at a time
use Rattle.std.proofs.Common.{◌≡◌, ℕ, ◌+◌, ◌-◌, ◌<◌, ◌≤◌, Bool, cond, List, [], ◌∷◌, ◌++◌, length, take, get_or}
use Rattle.std.proofs.Common.{sym, ap, arith, ◌∙◌, append_assoc}
use Rattle.std.proofs.lemmas.List.{append-nil, length-append, length-take, length-take-le, take-append-le, take_more}
use Rattle.monk_history.specs.declared.event.Event.{Event}
use Rattle.monk_history.specs.Meaning.Acts.{is_refused_act, refused_from, refused_steps}
use Rattle.monk_tell.specs.Told.{ShownSteps, most_told, told_steps}
use Rattle.std.proofs.lemmas.Bool.Decides.{nat_tests}

-- ---- the steps of one more event

abbrev step_of : Event → ℕ → List ℕ
step_of e step = cond (is_refused_act e) (step ∷ []) []

refused_next : (n : ℕ) (es : List Event) (e : Event)
    → refused_from n (es ++ e ∷ []) ≡ refused_from n es ++ step_of e (n + length es)
unfolding refused_from
refused_next n [] e = append-nil (step_of e n) ∙ ap (λ (k : ℕ). step_of e k) (omega arith)
refused_next n (d ∷ es) e =
    ap (λ (l : List ℕ). step_of d n ++ l)
    (refused_next (n + 1) es e ∙ ap (λ (k : ℕ). refused_from (n + 1) es ++ step_of e k) (omega arith))
    ∙ sym (append_assoc (step_of d n) (refused_from (n + 1) es) (step_of e (n + length (d ∷ es))))

pub refused_more : (es : List Event) (i : ℕ) (d : Event) (b : Bool) → i < length es → is_refused_act (get_or es i d) ≡ b
    → refused_steps (take (i + 1) es) ≡ refused_steps (take i es) ++ cond b ((i + 1) ∷ []) []
refused_more es i d b there is =
    let at : 1 + length (take i es) ≡ i + 1 = grind (arith, nat_tests, length-take-le) in
    ap (λ (l : List Event). refused_from 1 l) (take_more es i d there)
    ∙ (refused_next 1 (take i es) (get_or es i d)
    ∙ (λ j. refused_from 1 (take i es) ++ cond (is j) (at j ∷ []) []))

-- ---- the first ten of these, and how many more there are

abbrev pub shown : List ℕ → ℕ → ShownSteps
shown first more = record { first = first; more = more }

-- one more step is listed while there are fewer
pub told_within : (first : List ℕ) (more step : ℕ) (steps : List ℕ) → length first < most_told
    → shown first more ≡ told_steps steps → shown (first ++ step ∷ []) more ≡ told_steps (steps ++ step ∷ [])
told_within first more step steps few is = grind (arith, nat_tests)

-- or else only counted
pub told_past : (first : List ℕ) (more step : ℕ) (steps : List ℕ) → most_told ≤ length first
    → shown first more ≡ told_steps steps → shown first (more + 1) ≡ told_steps (steps ++ step ∷ [])
told_past first more step steps many is =
    let held : first ≡ take 10 steps = ap (λ (s : ShownSteps). s.first) is in
    let counted : more ≡ length steps - 10 = ap (λ (s : ShownSteps). s.more) is in
    let long = ap (λ (l : List ℕ). length l) held ∙ length-take 10 steps in
    let enough : 10 ≤ length steps = omega (arith, many, long) in
    let longer : length (steps ++ step ∷ []) ≡ length steps + 1 = length-append steps (step ∷ []) in
    let told = held ∙ sym (take-append-le 10 steps (step ∷ []) enough) in
    let one_more : more + 1 ≡ length (steps ++ step ∷ []) - 10 = omega (arith, counted, longer, enough) in
    λ i. shown (told i) (one_more i)
