pub mod Words
pub mod Written
pub mod Parsed
pub mod Steps
pub mod Loop
