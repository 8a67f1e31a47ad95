pub mod Paired
pub mod Form
