pub mod Characters
pub mod Check
pub mod Comment
pub mod Cutting
pub mod Heading
pub mod Section
pub mod Words
