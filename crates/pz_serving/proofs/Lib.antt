pub mod Deciding
pub mod Obeying
pub mod Lines
