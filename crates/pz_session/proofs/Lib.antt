mod Common
pub mod Leaving
pub mod Bounds
pub mod BoardLemmas
pub mod LabelledLemmas
pub mod Closing
pub mod WorkedSessions
pub mod Rows
