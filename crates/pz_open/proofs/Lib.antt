pub mod Opening
pub mod Keeping
pub mod Chains
pub mod Moving
pub mod Keeps
