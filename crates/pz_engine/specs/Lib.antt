pub mod Sessions
pub mod Engine
