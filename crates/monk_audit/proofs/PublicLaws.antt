-- What other crates may cite of these proofs. Nothing else of `proofs` is public.

-- What a verdict says about a history
pub use Rattle.monk_audit.proofs.AuditLaws.{is_fault, is_legal}
-- The events before an event of a legal history are legal, and there is no reason against that event
pub use Rattle.monk_audit.proofs.AuditLaws.{legal_take, no_reason}
-- The state of a monitor after one more event of a history
pub use Rattle.monk_audit.proofs.AuditLaws.{stands_more}
-- Each history has this verdict
pub use Rattle.monk_audit.proofs.VerdictLaws.{is_verdict}
-- The reason of a first fault, by its number; and the number, if there is a reason, or none
pub use Rattle.monk_audit.proofs.ReasonLaws.{fault_again, none_by_number}
