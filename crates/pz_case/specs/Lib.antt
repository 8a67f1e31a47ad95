pub mod FirstLevel
pub mod Rulebook
pub mod Plan
pub mod Playing
