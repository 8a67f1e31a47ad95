-- The digest of a level: a number that is the same for equal levels. The objects of each cell are the bits of a word, and these words
-- are mixed in their order. Which levels have one digest matters for speed alone.
use Rattle.std.specs.Prelude.{◌≡◌, ℕ, zero, suc, ◌+◌, ◌-◌, ◌*◌, ◌%◌, ◌^◌, Bool, true, false}
use Rattle.std.specs.Prelude.{List, Option, Some, fold, length, map, slice_get, slice_set}
use Rattle.pz_cells.specs.declared.piece.Piece.{Piece}
use Rattle.pz_sheet.specs.Grid.{Grid}
use Rattle.pz_sheet.specs.Presence.{is_in}
use Rattle.pz_store.specs.declared.digest.TheConstants.{FACTOR}

abbrev pub bit_of : Bool → ℕ
bit_of true = 1
bit_of false = 0

-- a word with one more bit at its end
unfoldable pub with_bit : ℕ → Bool → ℕ
with_bit word is_set = (word * 2 + bit_of is_set) % 2 ^ 64

-- a digest, mixed with one word more
unfoldable pub digest_with : ℕ → ℕ → ℕ
digest_with digest word = (((digest + word) % 2 ^ 64) * FACTOR) % 2 ^ 64

-- the first objects of a cell, as bits
unfoldable pub cell_word : ℕ → List (Option Piece) → ℕ
cell_word zero cell = 0
cell_word (suc objects) cell = with_bit (cell_word objects cell) (is_in cell objects)

-- the digest of a level, by the first objects of its game
abbrev pub digest_of : ℕ → Grid → ℕ
digest_of objects grid = fold digest_with 0 (map (cell_word objects) grid.cells)

-- by how much a word counts in a digest, where so many words are mixed in from it on, itself included
unfoldable pub power_of : ℕ → ℕ
power_of count = FACTOR ^ count % 2 ^ 64

-- by how much the word of each of so many cells counts in the digest of their level
pub record ArePowers (count : ℕ) (powers : List ℕ) : Type 0 where
  pub long : length powers ≡ count
  pub each : (index power : ℕ) → slice_get powers index ≡ Some power → power ≡ power_of (count - index)

-- if `digest` is that of some words, `result` is that of the same words with `new` in place of `old`
abbrev pub IsReplaced : ℕ → ℕ → ℕ → ℕ → ℕ → Type 0
IsReplaced digest old new power result =
    (words : List ℕ) (index : ℕ) → slice_get words index ≡ Some old → power ≡ power_of (length words - index) → digest ≡ fold digest_with 0 words →
    result ≡ fold digest_with 0 (slice_set words index new)
