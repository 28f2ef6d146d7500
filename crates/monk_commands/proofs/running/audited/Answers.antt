use Rattle.std.proofs.Common.{◌≡◌, ℕ, arith}
use Rattle.monk_audit.specs.declared.verdict.Verdict.{Verdict, TheVariants.Legal, TheVariants.Forbidden}
use Rattle.monk_commands.proofs.running.audited.Goals as goal
use Rattle.std.proofs.lemmas.Grind.{common_steps}

-- a legal history is never found forbidden
never_forbidden : (v : Verdict) (n step reason : ℕ) → v ≡ Legal n → v ≡ Forbidden step reason → ⊥
never_forbidden v n step reason legal forbidden = cc

pub returns-in-Ok-Forbidden : goal.returns-in-Ok-Forbidden
returns-in-Ok-Forbidden c = grind (arith, common_steps)
