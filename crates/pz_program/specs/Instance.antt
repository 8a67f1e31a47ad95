-- The instances of rules, and what is made of them.
use Rattle.std.specs.Prelude.{ℕ, List, All}
use Rattle.pz_program.specs.declared.instance.Instance.{Instance}
use Rattle.pz_program.specs.declared.instance.Block.{Block}
use Rattle.pz_program.specs.declared.instance.Block.TheVariants.{One, Loop}
use Rattle.pz_program.specs.declared.instance.Program.{Program}
use Rattle.pz_game.specs.Pattern.{AreRowsOf}

-- the items of an instance are of objects of the game, whose objects have these layers
pub record IsInstanceOf (layers : List ℕ) (instance : Instance) : Type 0 where
  pub left : AreRowsOf layers instance.left
  pub right : AreRowsOf layers instance.right

abbrev pub IsGroupOf : List ℕ → List Instance → Type 0
IsGroupOf layers group = All (IsInstanceOf layers) group

abbrev pub AreGroupsOf : List ℕ → List (List Instance) → Type 0
AreGroupsOf layers groups = All (IsGroupOf layers) groups

abbrev pub IsBlockOf : List ℕ → Block → Type 0
IsBlockOf layers (One group) = IsGroupOf layers group
IsBlockOf layers (Loop groups) = AreGroupsOf layers groups

abbrev pub AreBlocksOf : List ℕ → List Block → Type 0
AreBlocksOf layers blocks = All (IsBlockOf layers) blocks

-- all items of a program are of objects of the game
pub record IsProgramOf (layers : List ℕ) (program : Program) : Type 0 where
  pub early : AreBlocksOf layers program.early
  pub late : AreBlocksOf layers program.late
