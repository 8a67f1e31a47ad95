pub mod Names
pub mod Reading
pub mod Json
pub mod Input
pub mod Entry
pub mod File
