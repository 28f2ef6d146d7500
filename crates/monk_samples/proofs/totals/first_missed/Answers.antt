use Rattle.std.proofs.Common.{◌+◌, ap, sym, ◌∙◌}
use Rattle.std.specs.Prelude.{option_map}
use Rattle.monk_samples.proofs.totals.first_missed.Goals as goal

pub returns-in-Some : goal.returns-in-Some
returns-in-Some c = ap (option_map (λ n. n + 1)) (sym c.in-Some.is ∙ c.first_refused.ensures.is)

pub returns-in-None : goal.returns-in-None
returns-in-None c = ap (option_map (λ n. n + 1)) (sym c.in-None.is ∙ c.first_refused.ensures.is)
