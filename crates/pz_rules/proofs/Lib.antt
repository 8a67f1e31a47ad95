mod CountingLemmas
mod ExpansionLemmas
mod Mapped
mod Belonging
mod Ownership
mod Examples
pub mod FaultLines
