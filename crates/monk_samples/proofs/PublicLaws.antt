-- What other crates may cite of these proofs: nothing else of `proofs` is public.

-- What may go to its own thread: `search threads depth 20` shows it for a closure
pub use Rattle.monk_samples.proofs.Crossing.{threads}
