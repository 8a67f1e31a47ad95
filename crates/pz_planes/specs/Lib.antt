pub mod Line
pub mod Noted
pub mod Notes
pub mod Planes
pub mod Marks
