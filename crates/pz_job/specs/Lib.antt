pub mod Rulebooks
pub mod SameRules
pub mod Sources
pub mod Job
pub mod FaultLines
