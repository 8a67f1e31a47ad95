pub mod Values
pub mod Sections
pub mod Program
pub mod Description
pub mod Recordings
