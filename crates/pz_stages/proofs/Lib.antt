pub mod Headings
pub mod Lines
