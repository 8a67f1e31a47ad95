pub mod Outcome
pub mod Combinations
pub mod Applying
pub mod Rest
pub mod Calm
pub mod Win
pub mod Step
pub mod Laws
