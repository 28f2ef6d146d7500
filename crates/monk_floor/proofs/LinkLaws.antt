-- Queues as links, one subject a file

pub mod Walks
pub mod Chains
pub mod Joining
pub mod Taking
pub mod Behind
pub mod Middles
pub mod Searching
pub mod Removing
pub mod Empty
pub mod Passing
