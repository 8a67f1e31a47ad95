pub mod Each
pub mod Fault
pub mod Lists
pub mod Name
pub mod NameSet
