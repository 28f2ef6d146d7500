-- What other crates may cite of these proofs. Nothing else of `proofs` is public.

-- a run in two parts
pub use Rattle.monk_judge.proofs.Following.{run_cut}
