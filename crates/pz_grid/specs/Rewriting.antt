-- The rewriting of cells. A left and a right cell of a rule rewrite a cell of the level, layer by layer. If the right places an
-- object on the layer, that object stands there. It heads where its word says. Without a word it is still if the left has a
-- movement word on an object of that layer; else it heads where what stood there did, and is still if nothing did. On other
-- layers an object is removed if the left names it as present or the right has it under `no`. What stays heads where it did.
use Rattle.std.specs.Prelude.{ℕ, List, fold, Bool, ◌||◌, Option, Some, None}
use Rattle.std.specs.List.{enumerate_from, zip}
use Rattle.pz_game.specs.declared.direction.Dir.{Dir}
use Rattle.pz_program.specs.declared.instance.Instance.{Instance}
use Rattle.pz_game.specs.declared.pattern.Item.{Item}
use Rattle.pz_game.specs.Pattern.{RuleRow}
use Rattle.pz_grid.specs.declared.placing.Place.{Place}
use Rattle.pz_sheet.specs.Grid.{Grid}
use Rattle.pz_sheet.specs.Rewriting.{with_rewritten, changes}
use Rattle.pz_grid.specs.Places.{position_of}

-- the level during a rewriting, and whether a cell has changed so far
pub record Rewriting : Type 0 where
  pub grid : Grid
  pub changed : Bool

abbrev pub in_rewrite : Grid → Bool → Rewriting
in_rewrite grid changed = record { grid = grid; changed = changed }

-- off the map nothing is rewritten
abbrev pub rewritten_at : Rewriting → List Item → List Item → Option (ℕ × ℕ) → Rewriting
rewritten_at so_far left right None = so_far
rewritten_at so_far left right (Some (x, y)) =
    in_rewrite (with_rewritten so_far.grid x y left right) (so_far.changed || changes so_far.grid x y left right)

-- the row's cell of this number rewrites, with its left and its right, the position where it stands
abbrev pub rewritten_along : Dir → Option ℕ → Place → Rewriting → ℕ × (List Item × List Item) → Rewriting
rewritten_along dir gap_at place so_far (index, (left, right)) =
    rewritten_at so_far left right (position_of so_far.grid dir gap_at place index)

-- a row is rewritten at its place, cell by cell, each from what the cells before have left
abbrev pub rewritten_row : Dir → Rewriting → Place × (RuleRow × RuleRow) → Rewriting
rewritten_row dir so_far (place, (left, right)) =
    fold (rewritten_along dir left.gap_at place) so_far (enumerate_from 0 (zip left.cells right.cells))

-- match.rewriting, rules.no-right: an instance is rewritten at the places of its rows, row by row; a right without rows rewrites nothing
abbrev pub after_rewriting : Instance → List Place → Rewriting → Rewriting
after_rewriting instance places so_far =
    fold (rewritten_row instance.scan) so_far (zip places (zip instance.left instance.right))
