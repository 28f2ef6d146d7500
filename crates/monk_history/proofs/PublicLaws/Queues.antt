-- What other crates may cite of queues that are numbered.

-- A queue of many, by its index
pub use Rattle.monk_history.proofs.QueueAtLaws.{all_empty_push, joined_at, seats_at-get, taken_at}
