pub mod Steps
pub mod Chains
pub mod Left
pub mod Laws
pub use Rattle.pz_session.specs.Board
pub use Rattle.pz_session.specs.Chain
