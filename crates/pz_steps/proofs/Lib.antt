pub mod GoingOn
pub mod Numbered
pub mod Staged
pub mod Stepping
