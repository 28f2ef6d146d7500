-- What other crates may cite of these proofs: nothing else of `proofs` is public.

-- A value that is found by its word has that word
pub use Rattle.monk_kinds.proofs.Naming.{found_is, some_is}
-- A kind is found by its word
pub use Rattle.monk_kinds.proofs.Naming.{kind_again}
