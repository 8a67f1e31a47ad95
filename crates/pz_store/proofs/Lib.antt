pub mod Listing
pub mod Mixing
pub mod Digesting
pub mod RowLemmas
pub mod Books
pub mod Rowing
pub mod Renumbering
