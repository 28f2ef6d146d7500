-- What other crates may cite of these proofs: nothing else of `proofs` is public.

-- A floor may go to another thread if its object may
pub use Rattle.monk_floor.proofs.Crossing.{floor_send}
-- A header that has a floor's numbers names its monitor
pub use Rattle.monk_floor.proofs.HeadedLaws.{legal_as_headed}
