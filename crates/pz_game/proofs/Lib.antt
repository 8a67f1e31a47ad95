pub mod FlagLemmas
pub mod MaskLemmas
