-- What the glyphs of LEVELS draw.
use Rattle.std.specs.Prelude.{ℕ, List}
use Rattle.pz_game.specs.declared.denotation.Denotation.{Denotation}

-- the names of a source, and what each of them denotes
pub record Drawing : Type 0 where
  pub names : List (List ℕ)
  pub values : List Denotation
