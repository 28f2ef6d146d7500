-- What other crates may cite of these proofs: nothing else of `proofs` is public.
pub mod Meaning
pub mod Queues
pub mod Texts
pub mod Formats
