mod Common
pub mod Changing
pub mod Joining
pub mod Labelling
pub mod LevelReads
pub mod Ordered
pub mod Walking
pub mod WorkedLevelTexts
