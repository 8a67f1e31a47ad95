pub mod BitLemmas
pub mod PlaneLemmas
pub mod ToggleLemmas
pub mod DifferingLemmas
pub mod MarkLemmas
