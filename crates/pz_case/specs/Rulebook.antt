-- A game with its rules.
use Rattle.pz_game.specs.declared.game.GameParts.{GameParts}
use Rattle.pz_program.specs.declared.instance.Program.{Program}

-- a game and the program of its rules
pub record RulebookState : Type 0 where
  pub game : GameParts
  pub program : Program
