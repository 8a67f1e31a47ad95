pub mod Digest
pub mod Book
pub mod Rows
pub mod Levels
