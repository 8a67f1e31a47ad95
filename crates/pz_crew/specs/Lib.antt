pub mod Pieces
pub mod Workers
pub mod Faults
pub mod Lane
pub mod Sent
pub mod Gates
pub mod Recorded
pub mod Worked
