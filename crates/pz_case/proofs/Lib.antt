pub mod FirstLevel
pub mod WorkedLevels
