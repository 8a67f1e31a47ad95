pub mod Equal
pub mod Hashes
pub mod Exclusion
pub mod Clash
