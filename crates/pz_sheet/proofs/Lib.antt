mod Common
pub mod SheetLemmas
pub mod RunLemmas
pub mod MapLemmas
pub mod PushLemmas
pub mod SameLemmas
pub mod HeadingLemmas
pub mod ChangeLemmas
pub mod StillLemmas
pub mod HoldingLemmas
pub mod PlacedLemmas
pub mod NewerLemmas
pub mod CountLemmas
pub mod TellLemmas
pub mod ToggleLemmas
pub mod MarkLemmas
