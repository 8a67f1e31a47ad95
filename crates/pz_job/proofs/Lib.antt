pub mod FaultLines
pub mod Kept
pub mod Plans
pub mod SameRules
pub mod WorkedJobs
