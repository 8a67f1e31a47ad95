pub mod CellTexts
pub mod Labels
pub mod Quoted
pub mod Written
