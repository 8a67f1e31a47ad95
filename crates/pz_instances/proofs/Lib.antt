pub mod EqualLemmas
pub mod HashLemmas
