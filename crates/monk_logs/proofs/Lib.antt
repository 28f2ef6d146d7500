pub mod PublicLaws
mod LogLaws
mod LastLineLaws
mod CrossedLaws
