pub mod Solution
pub mod Line
pub mod File
