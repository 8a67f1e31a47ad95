pub mod Commands
pub mod Instance
pub mod Segments
