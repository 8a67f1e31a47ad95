pub mod Outcome
pub mod Lines
pub mod Description
pub mod Inputs
pub mod Held
pub mod Open
pub mod Solutions
