pub mod Examples
pub mod SectionLemmas
pub mod TextLemmas
