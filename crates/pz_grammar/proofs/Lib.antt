pub mod Stepping
pub mod Sound
pub mod Complete
