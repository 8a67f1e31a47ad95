pub mod EachLemmas
pub mod FaultLemmas
pub mod ListLemmas
pub mod NameLemmas
