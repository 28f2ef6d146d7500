pub mod Closes
pub mod Coming
pub mod Dealing
mod Sendable
pub mod Texts
