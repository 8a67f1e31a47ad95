-- The first cells of a level, as they are written.
use Rattle.std.specs.Prelude.{◌≡◌, ℕ, ◌+◌, ◌-◌, ◌*◌, ◌≤◌, ◌<◌, ◌%◌, List, length, map, take, drop, slice_index_or, All, Option}
use Rattle.json.specs.Print.{escape}
use Rattle.pz_base.specs.NameSet.{number_in}
use Rattle.pz_json_text.specs.declared.draft.Draft.{Draft}
use Rattle.pz_json_text.specs.declared.draft.TheConstants.{STEP}
use Rattle.pz_json_text.specs.declared.written.Written.{Written}
use Rattle.pz_json_text.specs.Labels.{text_at}
use Rattle.pz_json_text.specs.CellTexts.{known_of, text_to, text_of_cells}
use Rattle.pz_json_text.specs.Quoted.{escaped_says}

-- this much of the cells is written: their text stands at the front, escaped, and `given` has the number of each text that has
-- one
pub record AreWritten (width : ℕ) (all texts : List (List ℕ)) (written : Written) (json : List ℕ) (given : List (Option ℕ)) : Type 0 where
  pub text : take written.end json ≡ escape (text_to width all written.cells)
  pub within : written.end ≤ length json
  pub numbers : given ≡ map (number_in (known_of (take written.cells all))) texts
  pub known : written.known ≡ length (known_of (take written.cells all))
  pub few : written.known ≤ written.cells
  pub column : written.column ≡ written.cells % width
  pub line : written.column < width
  pub cells : written.cells ≤ length all

-- the labels of the texts that have a number once the first cells are written, in the order of the numbers
pub record AreFirsts (all texts : List (List ℕ)) (cells : ℕ) (firsts : List ℕ) : Type 0 where
  pub known : map (text_at texts) firsts ≡ known_of (take cells all)
  pub within : All (λ label. label < length texts) firsts

-- how much is written with the first cells
abbrev pub written_to : ℕ → List (List ℕ) → ℕ → Written
written_to width all cells = record { end = length (escape (text_to width all cells)); cells = cells; known = length (known_of (take cells all)); column = cells % width }

-- the same, in a text in which what ended at `from` ends at `to`
abbrev pub with_shifted_end : ℕ → ℕ → Written → Written
with_shifted_end from to written = record written { end = written.end - from + to }

-- how much was written at the start and after each `STEP` cells, before the cell of this number
pub record AreMarks (width : ℕ) (all : List (List ℕ)) (cells : ℕ) (marks : List Written) : Type 0 where
  pub at : (k : ℕ) (d : Written) → k < length marks → slice_index_or marks k d ≡ written_to width all (k * STEP)
  pub past : length marks * STEP < cells + STEP
  pub full : cells ≤ length marks * STEP

-- a text of which the first cells are written
pub record IsBegun (width : ℕ) (all texts : List (List ℕ)) (draft : Draft) (given : List (Option ℕ)) : Type 0 where
  pub written : AreWritten width all texts draft.at draft.json.items given
  pub firsts : AreFirsts all texts draft.at.cells draft.firsts.items
  pub marks : AreMarks width all draft.at.cells draft.marks.items

-- a text that has all cells
pub record IsWhole (width : ℕ) (all texts : List (List ℕ)) (draft : Draft) : Type 0 where
  pub text : take draft.at.end draft.json.items ≡ escape (text_of_cells width all)
  pub within : draft.at.end ≤ length draft.json.items
  pub firsts : AreFirsts all texts (length all) draft.firsts.items
  pub marks : AreMarks width all (length all) draft.marks.items

-- a cell is written as a digit and a comma, at this place in the text of all cells, where so many texts have a number
pub record IsDigitAt (width : ℕ) (all : List (List ℕ)) (cell place known : ℕ) : Type 0 where
  pub there : place ≡ length (escape (text_to width all cell))
  pub count : known ≡ length (known_of (take cell all))
  pub same : length (known_of (take (cell + 1) all)) ≡ known
  pub few : known ≤ 10

-- cells with these texts are as others, but for those from one number on and before another
pub record IsSameBut (first end : ℕ) (before all : List (List ℕ)) : Type 0 where
  pub front : take first before ≡ take first all
  pub back : drop end before ≡ drop end all
  pub count : length before ≡ length all
  pub within : end ≤ length all

-- what is kept of a text: the text itself, the labels that have a number in it, and how much of it was written at the start and
-- after each `STEP` cells
pub record RoomView : Type 0 where
  pub text : List ℕ
  pub firsts : List ℕ
  pub marks : List Written

abbrev pub room_of : Draft → RoomView
room_of draft = record { text = escaped_says (take draft.at.end draft.json.items); firsts = draft.firsts.items; marks = draft.marks.items }

-- the room has the text of cells with these texts
pub record HasTextOf (width : ℕ) (all texts : List (List ℕ)) (room : RoomView) : Type 0 where
  pub text : room.text ≡ text_of_cells width all
  pub firsts : AreFirsts all texts (length all) room.firsts
  pub marks : AreMarks width all (length all) room.marks

-- the room has the text of cells that were as these, but for those from one number on and before another
pub record HasTextBut (width first end : ℕ) (all texts : List (List ℕ)) (room : RoomView) : Type 0 where
  pub before : List (List ℕ)
  pub text : HasTextOf width before texts room
  pub same : IsSameBut first end before all
