-- A run is followed step by step
use Rattle.std.proofs.Common.{◌≡◌, ◌∙◌, ◌+◌, ◌<◌, ◌≤◌, ℕ, zero, suc, List, [], ◌∷◌, ◌++◌, length, get_or, take, drop, refl, sym, ap, ap₂, arith}
use Rattle.std.proofs.{Math.Seq.drop-cons, lemmas.List.append-nil, lemmas.List.append_assoc, lemmas.List.drop_all}
use Rattle.std.proofs.{lemmas.List.take_all, lemmas.List.take_more, lemmas.Bool.Decides.nat_tests}
use Rattle.monk_judge.specs.{Judged.after_all, Run.Setting, Run.State, Run.IsRun, Run.after}
use Rattle.monk_judge.specs.Followed.{behind_lines, left_by, places_below, telling}
use Rattle.monk_judge.specs.declared.step.Step.{Step, TheVariants.Tells, TheVariants.RunsOut, TheVariants.WakesUnasked}
use Rattle.monk_judge.specs.declared.place.Place.{Place, TheVariants.Outside}

-- ---- places as a list

places_at : (xs : List Place) (n : ℕ) → n ≤ length xs → take n xs ≡ places_below n (λ s. get_or xs s Outside)
places_at xs zero le = refl
places_at xs (suc n) le =
    let lt : n < length xs = omega (arith, le) in
    let next : suc n ≡ n + 1 = omega arith in
    grind (arith, nat_tests, take_more, places_at xs n (omega (arith, le)))

pub places_shown : (xs : List Place) → xs ≡ places_below (length xs) (λ s. get_or xs s Outside)
places_shown xs = sym (take_all (length xs) xs (omega arith)) ∙ places_at xs (length xs) (omega arith)

-- ---- a run in two parts

pub run_cut : (m : Setting) (x : State) (n : ℕ) (steps : List Step) → IsRun m x steps
    → IsRun m x (telling n steps) × IsRun m (after_all m x (telling n steps)) (behind_lines n steps)
run_cut m x zero steps run = (tt, run)
run_cut m x (suc n) [] run = (tt, tt)
run_cut m x (suc n) (Tells l w ∷ steps) run =
    let rest = run_cut m (after m x (Tells l w)) n steps run.1 in
    ((run.0, rest.0), rest.1)
run_cut m x (suc n) (RunsOut s ∷ steps) run =
    let rest = run_cut m (after m x (RunsOut s)) (suc n) steps run.1 in
    ((run.0, rest.0), rest.1)
run_cut m x (suc n) (WakesUnasked s ∷ steps) run =
    let rest = run_cut m (after m x (WakesUnasked s)) (suc n) steps run.1 in
    ((run.0, rest.0), rest.1)

-- ---- the steps of the first lines

pub record IsCut (lines : ℕ) (steps : List Step) (i left : ℕ) : Type 0 where
  pub first : telling lines steps ≡ take i steps ++ telling left (drop i steps)
  pub behind : behind_lines lines steps ≡ behind_lines left (drop i steps)

first_on : (n : ℕ) (step : Step) (rest : List Step)
    → telling (suc n) (step ∷ rest) ≡ step ∷ telling (left_by step n) rest
first_on n step rest = grind (arith, nat_tests)

behind_on : (n : ℕ) (step : Step) (rest : List Step)
    → behind_lines (suc n) (step ∷ rest) ≡ behind_lines (left_by step n) rest
behind_on n step rest = grind (arith, nat_tests)

pub cut_goes_on : (lines : ℕ) (steps : List Step) (i n left : ℕ) (d : Step) → i < length steps → left ≡ suc n
    → IsCut lines steps i left → IsCut lines steps (i + 1) (left_by (get_or steps i d) n)
cut_goes_on lines steps i n left d lt some was =
    let step = get_or steps i d in
    let rest = drop (i + 1) steps in
    let next : suc i ≡ i + 1 = omega arith in
    let on : drop i steps ≡ step ∷ rest = drop-cons steps i d lt ∙ ap (λ (k : ℕ). step ∷ drop k steps) next in
    record {
      first = was.first ∙ ap₂ (λ (k : ℕ) (ys : List Step). take i steps ++ telling k ys) some on
          ∙ ap (λ (ys : List Step). take i steps ++ ys) (first_on n step rest)
          ∙ sym (append_assoc (take i steps) (step ∷ []) (telling (left_by step n) rest))
          ∙ ap (λ (ys : List Step). ys ++ telling (left_by step n) rest) (sym (take_more steps i d lt));
      behind = was.behind ∙ ap₂ behind_lines some on ∙ behind_on n step rest;
    }

none_first : (n : ℕ) → telling n [] ≡ []
none_first n = grind (arith, nat_tests)

none_behind : (n : ℕ) → behind_lines n [] ≡ []
none_behind n = grind (arith, nat_tests)

pub cut_ends : (lines : ℕ) (steps : List Step) (i left : ℕ) → length steps ≤ i → IsCut lines steps i left
    → (steps ≡ telling lines steps) × ([] ≡ behind_lines lines steps)
cut_ends lines steps i left all was =
    let gone : drop i steps ≡ [] = drop_all i steps all in
    grind (arith, nat_tests, take_all, ap₂, none_first, append-nil, none_behind)
