pub mod CommandReading
pub mod PlayHeads
pub mod PlainPlays
pub mod PlayText
