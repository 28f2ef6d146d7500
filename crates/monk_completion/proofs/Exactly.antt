-- The verdict on a log says exactly which legal histories begin with it
use Rattle.std.proofs.Common.{◌≡◌, ℕ, ◌+◌, ◌<◌, ◌≤◌, ◌-◌, List, [], ◌∷◌, take, drop, ◌++◌, length, Some, refl, sym, subst, ◌∙◌, arith}
use Rattle.std.proofs.lemmas.Bool.Decides.{nat_tests}
use Rattle.std.proofs.lemmas.List.{append-nil, append_assoc, length-append, take-append-drop, take-take, take_at}
use Rattle.std.specs.Prelude.{Result, Ok, Err}
use Rattle.monk_kinds.specs.{Kind.IsKind, Names.rules_named, declared.name.KindName.KindName}
use Rattle.monk_history.specs.Meaning.Monitor.{Monitor}
use Rattle.monk_logs.specs.{Log.LogHeading, declared.text.line.LogLine.LogLine}
use Rattle.monk_completion.proofs.{Completeness.open_judged, Lead.lead_all, Lead.lead_none, Lead.lead_push}
use Rattle.monk_completion.proofs.Soundness.{judged_open, open_front}
use Rattle.monk_completion.specs.{Fits.IsOpen, declared.blame.Blame.Blame, declared.verdict.LogVerdict.LogVerdict}
use Rattle.monk_completion.specs.{declared.verdict.LogVerdict.TheVariants.Fits}
use Rattle.monk_completion.specs.Stand.{Stand, line_over, opening_stand, verdict_from, verdict_on}
use Rattle.monk_completion.specs.Verdict.{FitsExactly, IsMisfit, IsVerdictOn, MisfitsExactly, log_monitor, misfit_at}

-- ---- line by line

next_line : (front more : List LogLine) (l : LogLine) → front ++ l ∷ more ≡ (front ++ l ∷ []) ++ more
next_line front more l = sym (append_assoc front (l ∷ []) more)

one_longer : (front : List LogLine) (l : LogLine) → length (front ++ l ∷ []) ≡ length front + 1
one_longer front l = length-append front (l ∷ [])

module _ (m : Monitor) (kind : IsKind m.kind) where
  misfits_here : (front more : List LogLine) (l : LogLine) → IsOpen m front → (IsOpen m (front ++ l ∷ []) → ⊥)
      → IsMisfit m (front ++ l ∷ more) (length front + 1)
  misfits_here front more l opens f = grind (arith, nat_tests, take_at, next_line, one_longer)

  verdict_behind : (front more : List LogLine) (s : Stand) (l : LogLine) (r : Result Stand Blame)
      → lead_all m front ≡ Ok s → line_over m s l ≡ r
      → ((d : Stand) → line_over m s l ≡ Ok d
      → IsVerdictOn m ((front ++ l ∷ []) ++ more) (verdict_from m (length (front ++ l ∷ [])) (Ok d) more))
      → IsVerdictOn m (front ++ l ∷ more) (verdict_from m (length front + 1) r more)
  unfolding verdict_from
  verdict_behind front more s l (Err why) at is f =
      misfits_here front more l (judged_open m front s kind at)
      (λ o. open_judged m (front ++ l ∷ []) why o (lead_push m front s l at ∙ is))
  verdict_behind front more s l (Ok d) at is f =
      subst (λ (n : ℕ). IsVerdictOn m (front ++ l ∷ more) (verdict_from m n (Ok d) more)) (one_longer front l)
      (subst (λ (log : List LogLine). IsVerdictOn m log (verdict_from m (length (front ++ l ∷ [])) (Ok d) more))
      (sym (next_line front more l)) (f d is))

  verdict_holds : (front more : List LogLine) (s : Stand) → lead_all m front ≡ Ok s
      → IsVerdictOn m (front ++ more) (verdict_from m (length front) (Ok s) more)
  unfolding verdict_from
  verdict_holds front [] s at = subst (IsOpen m) (sym (append-nil front)) (judged_open m front s kind at)
  verdict_holds front (l ∷ more) s at =
      verdict_behind front more s l (line_over m s l) at refl
      (λ d is. verdict_holds (front ++ l ∷ []) more d (lead_push m front s l at ∙ is))

  verdict_is : (log : List LogLine) → IsVerdictOn m log (verdict_on m log)
  verdict_is log = verdict_holds [] log (opening_stand m) (lead_none m (Ok (opening_stand m)))

-- ---- if a log is open, it is open up to each of its lines

same_number : (k n : ℕ) → (k < n → ⊥) → (n < k → ⊥) → k ≡ n
same_number k n f g = omega arith

module _ (m : Monitor) (log : List LogLine) where
  open_take : (n : ℕ) → IsOpen m log → IsOpen m (take n log)
  open_take n o = open_front m (take n log) (drop n log) (subst (IsOpen m) (sym (take-append-drop n log)) o)

  open_less : (k n : ℕ) → k ≤ n → IsOpen m (take n log) → IsOpen m (take k log)
  open_less k n l o =
      subst (IsOpen m) (take-take k n log l)
      (open_front m (take k (take n log)) (drop k (take n log))
      (subst (IsOpen m) (sym (take-append-drop k (take n log))) o))

  not_before : (k n : ℕ) → IsMisfit m log k → IsMisfit m log n → k < n → ⊥
  not_before k n f g l = f.not_open (open_less k (n - 1) (omega arith) g.open_before)

  fits_open : (v : LogVerdict) → IsVerdictOn m log v → v ≡ Fits → IsOpen m log
  fits_open v h h2 = grind arith

  open_fits : (v : LogVerdict) → IsVerdictOn m log v → IsOpen m log → v ≡ Fits
  open_fits v w o = grind (arith, nat_tests, open_take)

  misfit_is : (v : LogVerdict) (n : ℕ) → IsVerdictOn m log v → misfit_at v ≡ Some n → IsMisfit m log n
  misfit_is v n h h2 = grind arith

  is_misfit : (v : LogVerdict) (n : ℕ) → IsVerdictOn m log v → IsMisfit m log n → misfit_at v ≡ Some n
  is_misfit v n w f = grind (arith, nat_tests, open_take, same_number, not_before)

-- ---- a log under a kind

each_is_kind : (k : KindName) → IsKind (rules_named k)
each_is_kind k = grind arith

pub kind_fits : (k : KindName) (h : LogHeading) (log : List LogLine)
    → FitsExactly (log_monitor k h) log (verdict_on (log_monitor k h) log)
kind_fits k h log =
    let m = log_monitor k h in
    let exact = verdict_is m (each_is_kind k) log in
    (fits_open m log (verdict_on m log) exact, open_fits m log (verdict_on m log) exact)

pub kind_misfits : (k : KindName) (h : LogHeading) (log : List LogLine)
    → MisfitsExactly (log_monitor k h) log (verdict_on (log_monitor k h) log)
kind_misfits k h log n =
    let m = log_monitor k h in
    let exact = verdict_is m (each_is_kind k) log in
    (misfit_is m log (verdict_on m log) n exact, is_misfit m log (verdict_on m log) n exact)
