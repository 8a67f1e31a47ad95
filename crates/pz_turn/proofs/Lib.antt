mod Common
pub mod Combining
pub mod Passes
pub mod SingleRow
pub mod Skipping
pub mod OneCell
pub mod Segments
pub mod Unchanged
pub mod Stops
pub mod WorkedTurns
