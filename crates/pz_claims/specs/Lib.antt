pub mod Answers
pub mod Holders
pub mod Rule
pub mod Steps
pub mod View
