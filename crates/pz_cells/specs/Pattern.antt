-- What holds in a cell, which is to say fits there. A name without a word holds where its object is, however it heads. A
-- direction holds where the object heads there, `stationary` where it is still, and `no` where it isn't. A cell of a rule holds
-- where all its items do.
use Rattle.std.specs.Prelude.{List, Bool, true, false, Option, Some, None}
use Rattle.std.specs.List.{list_all}
use Rattle.pz_game.specs.declared.direction.Dir.{Dir}
use Rattle.pz_game.specs.declared.pattern.Item.{Item}
use Rattle.pz_game.specs.declared.pattern.Word.{Word}
use Rattle.pz_game.specs.declared.pattern.Word.TheVariants.{Present, Still, Toward, Absent}
use Rattle.pz_cells.specs.declared.piece.Piece.{Piece}
use Rattle.pz_cells.specs.Standing.{standing}
use Rattle.pz_game.specs.Direction.{same_dir}

-- what a word asks of its object
abbrev pub word_holds : Word → Option (Option Dir) → Bool
word_holds Absent None = true
word_holds Present (Some _) = true
word_holds Still (Some None) = true
word_holds (Toward dir) (Some (Some heading)) = same_dir heading dir
word_holds _ _ = false

-- match.fit
abbrev pub item_holds : List (Option Piece) → Item → Bool
item_holds cell item = word_holds item.word (standing cell item.object)

-- a rule's cell holds if all its items do; an empty one holds everywhere
abbrev pub pattern_holds : List (Option Piece) → List Item → Bool
pattern_holds cell pattern = list_all (item_holds cell) pattern
