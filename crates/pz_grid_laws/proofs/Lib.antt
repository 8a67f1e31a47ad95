mod Common
pub mod KnownLaws
pub mod LawfulLemmas
pub mod RewritingLemmas
pub mod StandingLemmas
pub mod Rows
pub mod WorkedPlaces
pub mod WorkedMarks
pub mod WorkedLevels
