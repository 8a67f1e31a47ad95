pub mod Objects
pub mod Legend
pub mod Meaning
pub mod Denotation
pub mod Cycles
pub mod Kinds
pub mod Values
