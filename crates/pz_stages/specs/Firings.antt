-- The lines of firings: each instance that changes a cell, in the order in which they do, before the line of their group or loop. A
-- place is a column, a row, and the cells that a gap spans; a list of places has one of each row of the rule.
use Rattle.std.specs.Prelude.{ℕ, ◌+◌, List, [], ◌∷◌, ◌++◌, flat_map, slice_get, Option, Some, None, codes, decimal}
use Rattle.json.specs.Print.{quoted}
use Rattle.pz_grid.specs.declared.placing.Place.{Place}
use Rattle.pz_level_text.specs.LevelText.{text_of_level}
use Rattle.pz_program.specs.declared.instance.Block.{Block}
use Rattle.pz_program.specs.declared.instance.Program.{Program}
use Rattle.pz_session.specs.Board.{State}
use Rattle.pz_sheet.specs.Grid.{Grid}
use Rattle.pz_trace.specs.Firings.{FiringState, firings_of}
use Rattle.pz_trace.specs.declared.stage.Part.{Part}
use Rattle.pz_trace.specs.declared.stage.Part.TheVariants.{Input, Early, Movement, Late, End}
use Rattle.pz_stages.specs.Parts.{block_text, json_list, dir_name, headings_of, concatenation, part_name}
use Rattle.pz_stages.specs.declared.detail.Detail.{Detail}
use Rattle.pz_stages.specs.declared.detail.Detail.TheVariants as detail

abbrev pub place_text : Place → List ℕ
place_text place = concatenation ((codes ",[" ++ decimal place.x) ∷ (codes "," ++ decimal place.y) ∷ (codes "," ++ decimal place.gap) ∷ codes "]" ∷ [])

abbrev pub places_text : List Place → List ℕ
places_text places = codes "," ++ json_list (flat_map place_text places)

-- a firing: of which part of which step of which input it is, when, and the level after it with what heads somewhere there
unfoldable pub firing_line : ℕ → ℕ → State → Part → FiringState → List ℕ
firing_line number tick state part firing =
    concatenation (codes "{"
    ∷ block_text part
    ∷ (codes "\"direction\":" ++ quoted (dir_name firing.scan))
    ∷ (codes ",\"group\":" ++ decimal firing.moment.group)
    ∷ (codes ",\"headings\":" ++ json_list (headings_of state.game.objects firing.gave.level))
    ∷ (codes ",\"input\":" ++ decimal number)
    ∷ (codes ",\"instance\":" ++ decimal firing.moment.instance)
    ∷ (codes ",\"level\":" ++ quoted (text_of_level state.game state.order firing.gave.level))
    ∷ (codes ",\"line\":" ++ decimal firing.line)
    ∷ (codes ",\"pass\":" ++ decimal firing.moment.pass)
    ∷ (codes ",\"places\":" ++ json_list (flat_map places_text firing.gave.places))
    ∷ (codes ",\"round\":" ++ decimal firing.moment.round)
    ∷ (codes ",\"stage\":" ++ quoted (part_name part))
    ∷ (codes ",\"tick\":" ++ decimal tick)
    ∷ codes "}\n" ∷ [])

-- the part behind one, where that is a group or a loop; any other runs no block
abbrev pub behind_part : Part → Part
behind_part Input = Early 0
behind_part (Early number) = Early (number + 1)
behind_part Movement = Late 0
behind_part (Late number) = Late (number + 1)
behind_part End = End

abbrev pub block_at : Program → Part → Option Block
block_at program (Early number) = slice_get program.early number
block_at program (Late number) = slice_get program.late number
block_at program other = None

abbrev pub firing_lines : ℕ → ℕ → State → Part → Option Block → Grid → List ℕ
firing_lines number tick state part None level = []
firing_lines number tick state part (Some block) level = flat_map (firing_line number tick state part) (firings_of state.game.rules block level).firings

-- what is told before the part behind this one, which leads on from a level
unfoldable pub lines_before : Detail → ℕ → ℕ → State → Part → Grid → List ℕ
lines_before detail.Stages number tick state last level = []
lines_before detail.Firings number tick state last level = firing_lines number tick state (behind_part last) (block_at state.program (behind_part last)) level
