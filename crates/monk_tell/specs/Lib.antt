pub mod Cause
pub mod Permitted
pub mod Place
pub mod Steps
pub mod Told
pub mod Words
pub mod Why
