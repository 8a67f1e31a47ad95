pub mod Parts
pub mod Firings
pub mod Stages
pub mod Writer
pub mod File
pub use Rattle.pz_steps.specs.Steps
