-- What a name denotes.
use Rattle.std.specs.Prelude.{ℕ, ◌<◌, length, All}
use Rattle.pz_game.specs.declared.denotation.Denotation.{Denotation}

-- a name denotes objects of the game, at least one
pub record IsDenoted (objects : ℕ) (denotation : Denotation) : Type 0 where
  pub some : 0 < length denotation.members
  pub all : All (λ object. object < objects) denotation.members
