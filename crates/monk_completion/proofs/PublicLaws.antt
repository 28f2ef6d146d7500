-- What other crates may cite about completions.

-- What the verdict on a log says about legal histories, under each kind.
pub use Rattle.monk_completion.proofs.Exactly.{kind_fits, kind_misfits}
