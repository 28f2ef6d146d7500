-- What other crates may cite from these proofs: nothing else in `proofs` is public.

-- A shop loses no customer
pub use Rattle.monk_object.proofs.Customers.{customers}
-- Readers and a writer of a book exclude each other
pub use Rattle.monk_object.proofs.Exclusive.{exclusive}
-- A buffer is first in, first out
pub use Rattle.monk_object.proofs.FirstInFirstOut.{first_in_first_out}
-- The bits of flags are those of the last set that was done
pub use Rattle.monk_object.proofs.LastSet.{last_set}
