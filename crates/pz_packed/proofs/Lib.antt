pub mod Listing
pub mod PairedLemmas
