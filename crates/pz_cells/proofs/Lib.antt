mod Common
pub mod PlaceLemmas
pub mod CellLemmas
pub mod SameLemmas
pub mod HoldLemmas
pub mod RewriteLemmas
pub mod ListLemmas
pub mod MoverLemmas
pub mod DrawLemmas
