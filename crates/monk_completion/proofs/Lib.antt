pub mod PublicLaws
mod Tests
mod Calls
mod Events
mod ToldInHistories
mod Lead
mod Soundness
mod Completeness
mod Exactly
mod Halves
mod Endings
mod FrontLaws
mod ToldLaws
mod Lines
