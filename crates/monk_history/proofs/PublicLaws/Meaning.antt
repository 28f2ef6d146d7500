-- What other crates may cite of the meaning of a history: who has the turn, what one more event changes, what may be
-- called and what is then allowed.

-- The acts of a legal history are a run of its object, so the laws of the object hold for them
pub use Rattle.monk_history.proofs.MeaningLaws.ActLaws.{excludes, in_order, serves_each}
pub use Rattle.monk_history.proofs.MeaningLaws.CallLaws.{may_signal_wait}
pub use Rattle.monk_history.proofs.MeaningLaws.CallLaws.{queued_is}
-- How one more event changes what is counted seat by seat, and how long lists of few seats are
pub use Rattle.monk_history.proofs.MeaningLaws.CountLaws.{enters_few, enters_none, enters_of-push, events_of-push}
pub use Rattle.monk_history.proofs.MeaningLaws.CountLaws.{few_events, granted_few, granted_none, granted_of-push}
pub use Rattle.monk_history.proofs.MeaningLaws.CountLaws.{history_few, length-events_of, length-events_of-push}
pub use Rattle.monk_history.proofs.MeaningLaws.CountLaws.{length_total, room_left, total_le}
-- When a seat may enter or resume; what may be called; what a seat knows about itself
pub use Rattle.monk_history.proofs.MeaningLaws.EntryLaws.{enters_free, enters_handed, resumes}
-- What is counted over a history, with one more event
pub use Rattle.monk_history.proofs.MeaningLaws.HistoryLaws.{history_induction}
-- Which histories are legal: event by event, and by their front
pub use Rattle.monk_history.proofs.MeaningLaws.LegalLaws.{allowed_from_reason, first_fault_unique, legal-push}
pub use Rattle.monk_history.proofs.MeaningLaws.LegalLaws.{legal_front, legal_last, legal_no_fault, legal_none}
-- What a mode does to the choice
pub use Rattle.monk_history.proofs.MeaningLaws.ModeLaws.{blocking, non_blocking}
-- Where seats are after one more event, and what is counted
pub use Rattle.monk_history.proofs.MeaningLaws.MoveLaws.{caller_unqueued, counts_after, stands_after}
-- The choice by the path of a mode is the choice by the wish rules
pub use Rattle.monk_history.proofs.MeaningLaws.PathLaws.{equal_path, quasi_blocking, ready_path, served_path}
pub use Rattle.monk_history.proofs.MeaningLaws.PathLaws.{signal_stays, signaller_path, waiter_path}
-- If entry is chosen, nobody could be chosen from a queue, unless somebody is known to wait for entry
pub use Rattle.monk_history.proofs.MeaningLaws.QuietLaws.{quiet_after}
-- A call that may be made, with the choice by the wish rules, is allowed; and which seats are in the queues
pub use Rattle.monk_history.proofs.MeaningLaws.ReleaseLaws.{IsInOrder}
pub use Rattle.monk_history.proofs.MeaningLaws.QueueSeats.{IsSeated}
pub use Rattle.monk_history.proofs.MeaningLaws.ReleaseLaws.{chosen_allowed, legal_order}
pub use Rattle.monk_history.proofs.MeaningLaws.QueueSeats.{legal_seated}
pub use Rattle.monk_history.proofs.MeaningLaws.QueueSeats.{seat_in_range, times_le_conditions}
-- Where the seats of a legal history are
pub use Rattle.monk_history.proofs.MeaningLaws.StandingLaws.{legal_placed}
-- The situation after one more event
pub use Rattle.monk_history.proofs.MeaningLaws.StepLaws.{joins_in_range, legal_situation-push, same_situation, situation-none}
-- The sum of a weight over a history, seat by seat
pub use Rattle.monk_history.proofs.MeaningLaws.SumLaws.{AreDistinct, length-sum_by, rest_has, rest_of, same_sums}
pub use Rattle.monk_history.proofs.MeaningLaws.SumLaws.{sum_by_all_seats, sum_by_seats}
-- Tests joined, and fronts of queues
pub use Rattle.monk_history.proofs.MeaningLaws.TestLaws.{and_left, and_right}
-- Whose turn it is after one more event
pub use Rattle.monk_history.proofs.MeaningLaws.TurnLaws.{turn-push}
-- A seat in no queue may enter if the turn is open: handed in after the history has begun, and free as its first
-- event
pub use Rattle.monk_history.proofs.MeaningLaws.UnqueuedLaws.{may_enter_begun, may_enter_first}
-- The turn is that after the last event
pub use Rattle.monk_history.proofs.MeaningLaws.UnqueuedLaws.{turn_at_last}
