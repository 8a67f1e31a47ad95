pub mod Numbers
pub mod Reported
mod Ended
