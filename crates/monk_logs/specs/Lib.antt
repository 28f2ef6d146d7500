pub mod Log
pub mod LastLine
pub mod Crossed
