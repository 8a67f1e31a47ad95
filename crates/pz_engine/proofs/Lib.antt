pub mod Deciding
pub mod Played
pub mod Taken
pub mod Told
