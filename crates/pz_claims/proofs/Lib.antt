mod Sums
pub mod Counting
mod Keeping
pub mod Steps
pub mod Closing
