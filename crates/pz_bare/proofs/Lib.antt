pub mod LoadingLemmas
pub mod PastLemmas
pub mod DifferingLemmas
