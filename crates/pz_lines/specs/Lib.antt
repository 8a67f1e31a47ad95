pub mod Naming
pub mod Lines
pub mod Packed
pub mod Writing
