pub mod CellOrder
pub mod LevelNames
pub mod LevelText
pub mod Equality
pub mod Labels
pub mod Naming
pub mod LastText
