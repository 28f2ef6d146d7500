pub mod FloorCalls
pub mod Halls
pub mod Passes
