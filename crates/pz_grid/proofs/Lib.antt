mod Common
pub mod SameLemmas
pub mod GatherLemmas
pub mod MovementLemmas
pub mod StillLemmas
pub mod SettleLemmas
pub mod StayLemmas
pub mod MarkLemmas
pub mod MoveLemmas
pub mod FoldLemmas
pub mod FoundLemmas
pub mod PlaceLemmas
pub mod NamedLemmas
pub mod HeadLemmas
pub mod StartLemmas
pub mod SkipLemmas
pub mod SomewhereLemmas
pub mod CountLemmas
