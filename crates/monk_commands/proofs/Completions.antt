-- A log is completed exactly if it is open under the kind
use Rattle.std.proofs.Common.{◌≡◌, ℕ, ◌<◌, ◌≤◌, ◌^◌, inl, inr, List, Result, Ok, Err, rules}
use Rattle.std.specs.Prelude.{◌↔◌}
use Rattle.std.proofs.{Common.refl, Common.arith, lemmas.Bool.Decides.nat_tests}
use Rattle.monk_kinds.specs.declared.name.KindName.{KindName}
use Rattle.monk_object.specs.Names.{most}
use Rattle.monk_history.specs.declared.text.fault.ReadFault.{ReadFault}
use Rattle.monk_completion.proofs.PublicLaws.{kind_fits, kind_misfits}
use Rattle.monk_completion.specs.{Fits.IsOpen, Stand.verdict_on}
use Rattle.monk_completion.specs.Verdict.{FitsExactly, IsMisfit, MisfitsExactly, log_monitor}
use Rattle.monk_completion.specs.declared.verdict.LogVerdict.{LogVerdict, TheVariants.Fits, TheVariants.Misfit}
use Rattle.monk_logs.{specs.Log.LogHeading, specs.Log.Reading.Log, specs.Log.Reading.log, specs.Log.Reading.log_at}
use Rattle.monk_logs.{specs.declared.text.line.LogLine.LogLine, proofs.PublicLaws.log_again, proofs.PublicLaws.log_read}
use Rattle.monk_commands.specs.Completed.{IsAnswerToLog, IsLogAnswer, IsLogOf, IsMisfitText, IsOpenText}
use Rattle.monk_commands.specs.Completed.{IsReadingAnswer, IsVerdictAnswer}

-- for the answer to a log
module _ (kind : KindName) (h : LogHeading) (ls : List LogLine) (status : ℕ) (Puts : List ℕ → Type 0) where
  open_by : (v : LogVerdict) → FitsExactly (log_monitor kind h) ls v → IsVerdictAnswer kind h ls v status Puts
      → (status ≡ 0) ↔ IsOpen (log_monitor kind h) ls
  open_by v fits a = grind (arith, nat_tests)

  misfit_by : (v : LogVerdict) → MisfitsExactly (log_monitor kind h) ls v → IsVerdictAnswer kind h ls v status Puts
      → (status ≡ 1) ↔ ((n : ℕ) × IsMisfit (log_monitor kind h) ls n)
  misfit_by Fits misfits a = grind (arith, nat_tests)
  misfit_by (Misfit n why) misfits a = (λ one. (n, (misfits n).0 refl), λ w. a.0)

  -- the size is within the object's greatest
  of_log : h.size ≤ most h.object → IsLogAnswer kind (log h ls) status Puts
      → IsVerdictAnswer kind h ls (verdict_on (log_monitor kind h) ls) status Puts
  of_log size h = grind (arith, nat_tests)

-- for the answer to bytes
module _ (kind : KindName) (input : List ℕ) (status : ℕ) (Puts : List ℕ → Type 0) where
  log_is : (l : Log) → log_at (2 ^ 25) input ≡ Ok l → l.0.size ≤ most l.0.object → IsLogOf input l.0 l.1
  log_is l is size =
      let t = log_read (2 ^ 25) input l is in record { has_text = t.0; few = t.1; whole = t.2; size = size }

  answer_of : (h : LogHeading) (ls : List LogLine) → IsLogOf input h ls → IsAnswerToLog kind input status Puts
      → IsVerdictAnswer kind h ls (verdict_on (log_monitor kind h) ls) status Puts
  answer_of h ls t a = grind (arith, nat_tests, of_log, Result, log_again)

  -- a status below 2 is answered exactly to the logs for which P holds
  exactly : (P : LogHeading → List LogLine → Type 0) (n : ℕ) → n < 2
      → ((h : LogHeading) (ls : List LogLine)
      → IsVerdictAnswer kind h ls (verdict_on (log_monitor kind h) ls) status Puts → (status ≡ n) ↔ P h ls)
      → IsAnswerToLog kind input status Puts
      → (status ≡ n) ↔ ((h : LogHeading) × ((ls : List LogLine) × (IsLogOf input h ls × P h ls)))
  exactly P n low by a = (
    read (log_at (2 ^ 25) input) refl a,
    λ t. (by t.0 t.1.0 (answer_of t.0 t.1.0 t.1.1.0 a)).1 t.1.1.1,
  )
    where
      read : (r : Result Log ReadFault) → log_at (2 ^ 25) input ≡ r → IsReadingAnswer kind r status Puts → status ≡ n
          → (h : LogHeading) × ((ls : List LogLine) × (IsLogOf input h ls × P h ls))
      read (Ok l) is (inl a) e = (l.0, (l.1, (log_is l is a.0, (by l.0 l.1 a.1).0 e)))
      read (Ok l) is (inr a) e = absurd (omega (arith, a.1, e, low))
      read (Err f) is a e = absurd (omega (arith, a.0, e, low))

  pub exactly_open : IsAnswerToLog kind input status Puts → (status ≡ 0) ↔ IsOpenText kind input
  exactly_open a = search (rules, exactly, open_by, kind_fits)

  pub exactly_misfit : IsAnswerToLog kind input status Puts → (status ≡ 1) ↔ IsMisfitText kind input
  exactly_misfit a = search (rules, exactly, misfit_by, kind_misfits)
