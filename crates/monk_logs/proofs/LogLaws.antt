pub mod HeaderReading
pub mod LineReading
pub mod PlainLogs
pub mod LogText
