pub mod Opened
pub mod Telling
pub mod Places
pub mod Kept
pub mod Sessions
