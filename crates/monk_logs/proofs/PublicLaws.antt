-- What other crates may cite about logs.

-- The laws of the text of a log: the text is that of the log that is read, and each log is read from its text.
pub use Rattle.monk_logs.proofs.LogLaws.LogText.{log_again, log_read}
