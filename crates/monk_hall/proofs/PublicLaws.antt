-- What other crates may cite of these proofs: nothing else of `proofs` is public.

-- Threads may share a hall, and a hall and its tokens may go to another thread, if the kind and the object may
pub use Rattle.monk_hall.proofs.Crossing.{active_send, hall_send, hall_sync, parked_send, pass_send}
-- The sum of a weight over a history that holds only some seats' calls is that over each seat's own
pub use Rattle.monk_hall.proofs.CompleteLaws.{holds_sum}
