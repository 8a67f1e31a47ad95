-- Hashes of instances: numbers that equal instances share, and few unequal ones do.
use Rattle.std.specs.Prelude.{ℕ, ◌+◌, ◌*◌, ◌/◌, ◌%◌, ◌^◌, List, [], ◌∷◌, fold, if◌then◌else◌}
use Rattle.std.specs.Int.RustNames.{bit_xor}
use Rattle.pz_game.specs.declared.direction.Dir.{Dir}
use Rattle.pz_game.specs.declared.direction.Dir.TheVariants.{Up, Down, Left, Right, Action}
use Rattle.pz_instances.specs.declared.hashes.TheConstants.{SPREADER}
use Rattle.pz_game.specs.declared.pattern.Word.{Word}
use Rattle.pz_game.specs.declared.pattern.Word.TheVariants.{Present, Still, Toward, Absent}
use Rattle.pz_game.specs.declared.pattern.Item.{Item}
use Rattle.pz_program.specs.declared.instance.Instance.{Instance}
use Rattle.pz_instances.specs.Equal.{has_item}
use Rattle.pz_game.specs.Pattern.{RuleRow}

abbrev pub direction_number : Dir → ℕ
direction_number Up = 0
direction_number Down = 1
direction_number Left = 2
direction_number Right = 3
direction_number Action = 4

abbrev pub word_number : Word → ℕ
word_number (Toward direction) = direction_number direction
word_number Present = 5
word_number Still = 6
word_number Absent = 7

-- a product, as far as a word of 64 bits holds it
abbrev pub spread_once : ℕ → ℕ
spread_once number = number * SPREADER % 2 ^ 64

abbrev pub spread : ℕ → ℕ
spread number = spread_once (bit_xor (spread_once number) (spread_once number / 2 ^ 32))

unfoldable pub item_hash : Item → ℕ
item_hash item = spread ((item.object * 8 % 2 ^ 64 + word_number item.word) % 2 ^ 64)

-- an item that stands in a cell more than once counts once
abbrev pub cell_hash : List Item → ℕ
cell_hash [] = 0
cell_hash (x ∷ xs) = if has_item xs x then cell_hash xs else bit_xor (item_hash x) (cell_hash xs)

unfoldable pub with_cell : ℕ → List Item → ℕ
with_cell hash cell = spread_once (bit_xor hash (cell_hash cell))

unfoldable pub with_row : ℕ → RuleRow → ℕ
with_row hash row = fold with_cell hash row.cells

unfoldable pub hash_of : Instance → ℕ
hash_of instance = fold with_row (fold with_row (direction_number instance.scan) instance.left) instance.right
