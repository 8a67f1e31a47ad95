-- The texts that the lines of stages are made of.
use Rattle.std.specs.Prelude.{ℕ, Bool, true, false, List, [], ◌∷◌, ◌++◌, drop, flat_map, slice_get, Option, Some, None, codes, decimal}
use Rattle.std.specs.List.{enumerate_from, range_with_len}
use Rattle.json.specs.Print.{quoted}
use Rattle.pz_game.specs.declared.direction.Dir.{Dir}
use Rattle.pz_game.specs.declared.direction.Dir.TheVariants as dir
use Rattle.pz_game.specs.declared.rule_line.RuleLine.{RuleLine}
use Rattle.pz_program.specs.declared.commands.Commands.{Commands}
use Rattle.pz_program.specs.declared.instance.Block.{Block}
use Rattle.pz_program.specs.declared.instance.Program.{Program}
use Rattle.pz_program.specs.Commands as command
use Rattle.pz_sheet.specs.Grid.{Grid}
use Rattle.pz_sheet.specs.Standing.{heading_at}
use Rattle.pz_trace.specs.declared.stage.Part.{Part}
use Rattle.pz_trace.specs.declared.stage.Part.TheVariants.{Input, Early, Movement, Late, End}
use Rattle.pz_trace.specs.SourceLines.{lines_of}

-- texts, one behind another
abbrev pub concatenation : List (List ℕ) → List ℕ
concatenation texts = flat_map (λ text. text) texts

-- a JSON list of texts that each begin with a comma: the first comma is left out
abbrev pub json_list : List ℕ → List ℕ
json_list texts = codes "[" ++ (drop 1 texts ++ codes "]")

abbrev pub bool_text : Bool → List ℕ
bool_text true = codes "true"
bool_text false = codes "false"

unfoldable pub dir_name : Dir → List ℕ
dir_name dir.Up = codes "up"
dir_name dir.Down = codes "down"
dir_name dir.Left = codes "left"
dir_name dir.Right = codes "right"
dir_name dir.Action = codes "action"

-- an object that heads somewhere: its column, its row, its name, its direction
abbrev pub heading_text : ℕ → ℕ → List ℕ → Option Dir → List ℕ
heading_text x y name None = []
heading_text x y name (Some heading) =
    concatenation ((codes ",[" ++ decimal x) ∷ (codes "," ++ decimal y) ∷ (codes "," ++ quoted name) ∷ (codes "," ++ quoted (dir_name heading)) ∷ codes "]" ∷ [])

-- what heads somewhere in a cell, by the order of the objects
abbrev pub cell_headings : List (List ℕ) → Grid → ℕ → ℕ → List ℕ
cell_headings objects grid y x = flat_map (λ object. heading_text x y object.1 (heading_at grid x y object.0)) (enumerate_from 0 objects)

-- what heads somewhere in a row
abbrev pub row_headings : List (List ℕ) → Grid → ℕ → List ℕ
row_headings objects grid y = flat_map (cell_headings objects grid y) (range_with_len 0 grid.width)

-- what heads somewhere, row by row
abbrev pub headings_of : List (List ℕ) → Grid → List ℕ
headings_of objects grid = flat_map (row_headings objects grid) (range_with_len 0 grid.height)

abbrev pub text_if : Bool → List ℕ → List ℕ
text_if true text = text
text_if false text = []

-- the names of commands
abbrev pub command_names : Commands → List ℕ
command_names commands =
    concatenation (text_if (command.has commands command.again) (codes ",\"again\"")
    ∷ text_if (command.has commands command.cancel) (codes ",\"cancel\"")
    ∷ text_if (command.has commands command.checkpoint) (codes ",\"checkpoint\"")
    ∷ text_if (command.has commands command.restart) (codes ",\"restart\"")
    ∷ text_if (command.has commands command.win) (codes ",\"win\"") ∷ [])

unfoldable pub part_name : Part → List ℕ
part_name Input = codes "input"
part_name (Early number) = codes "early"
part_name Movement = codes "movement"
part_name (Late number) = codes "late"
part_name End = codes "end"

-- of a block its number
abbrev pub block_text : Part → List ℕ
block_text (Early number) = codes "\"block\":" ++ decimal number ++ codes ","
block_text (Late number) = codes "\"block\":" ++ decimal number ++ codes ","
block_text _ = []

abbrev pub source_lines : List RuleLine → Option Block → List ℕ
source_lines rules None = []
source_lines rules (Some block) = flat_map (λ line. codes "," ++ decimal line) (lines_of rules block)

-- of a block the lines of the source that it comes from
abbrev pub lines_text : List RuleLine → Program → Part → List ℕ
lines_text rules program (Early number) = codes ",\"lines\":" ++ json_list (source_lines rules (slice_get program.early number))
lines_text rules program (Late number) = codes ",\"lines\":" ++ json_list (source_lines rules (slice_get program.late number))
lines_text rules program _ = []
