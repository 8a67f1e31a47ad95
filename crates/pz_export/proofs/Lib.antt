pub mod Told
pub mod Steps
