mod Naming
pub mod PublicLaws
