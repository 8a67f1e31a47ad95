pub mod AnySheet
pub mod Loading
pub mod Past
pub mod Differing
