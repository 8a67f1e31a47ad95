-- The words of the proofs of this crate: what several of them import.
pub use Rattle.pz_cells.specs.Cell.{IsStillOn, moving_piece, still_piece, still_place}
pub use Rattle.pz_cells.specs.Rewriting.{kept, rewritten_cell, rewritten_place}
pub use Rattle.pz_cells.specs.declared.piece.Mover.{Mover}
pub use Rattle.pz_cells.specs.declared.piece.Piece.{Piece}
pub use Rattle.pz_game.specs.Items.{names, names_object, placed_on}
pub use Rattle.pz_game.specs.Pattern.{AreNamed, IsRow, RuleRow}
pub use Rattle.pz_game.specs.declared.direction.Dir.{Dir}
pub use Rattle.pz_game.specs.declared.direction.Dir.TheVariants.{Action, Down, Left, Right, Up}
pub use Rattle.pz_game.specs.declared.limits.TheConstants.{MOST_SIDE}
pub use Rattle.pz_game.specs.declared.pattern.Item.{Item}
pub use Rattle.pz_grid.proofs.GatherLemmas.{fold_gather_more, fold_map_more, gather, gather_few, gather_none, gather_skip, gather_step, gather_too_long, steps_stay}
pub use Rattle.pz_grid.proofs.MovementLemmas.{moves_on, same_size_on, widened_on}
pub use Rattle.pz_grid.specs.Admitted.{StartsNowhere, admits_line, admitted_count, line_at, line_of, marks_cell, marks_item, marks_of, searches_level, searches_line, start_count, start_of, starts_at, starts_in}
pub use Rattle.pz_grid.specs.Marks.{IsMarked, IsMarkedAt, IsMore, IsWidened, IsWidenedBy, is_marked, places_object, row_places}
pub use Rattle.pz_grid.specs.Movement.{AllStay, Leaves, Pass, Spot, Stays, heading_count, heading_goal, heads, in_pass, move_at, move_place, moved_to, moving, pass_of, after_movement, settle, spot, spots, spots_at, spots_in}
pub use Rattle.pz_grid.specs.Places.{along, cell_holds, cells_before, distance, gap_count, head_of, holds_at, holds_behind, line_count, line_length, pairs, pairs_at, pairs_in, place_in, places, row_holds, places_or_limit, starts_with, still_holds}
pub use Rattle.pz_grid.specs.Rewriting.{in_rewrite, rewritten_along, rewritten_row}
pub use Rattle.pz_grid.specs.Staying.{IsMove, IsStill, IsStillInColumn, IsStillInRow, KeepsStill}
pub use Rattle.pz_grid.specs.declared.placing.GridFault.TheVariants.{MatchLimit}
pub use Rattle.pz_grid.specs.declared.placing.Place.{Place}
pub use Rattle.pz_grid.specs.declared.placing.TheConstants.{MATCH_LIMIT}
pub use Rattle.pz_sets.specs.Sets.{IsWithin, member}
pub use Rattle.pz_sheet.proofs.CountLemmas.{count_fewer, count_more, count_no, count_within, count_yes, sum_more}
pub use Rattle.pz_sheet.proofs.RunLemmas.{action_leads_nowhere, enumerate_all, enumerate_fails, enumerate_more, numbered_at}
pub use Rattle.pz_sheet.specs.Grid.{Grid, IsLawful, LevelState, SameSize, cell_at, place_at, with_place}
pub use Rattle.pz_sheet.specs.Line.{column_of, dir_of, row_of, x_at, y_at}
pub use Rattle.pz_sheet.specs.Movement.{AreColumnsStill, AreStill, IsStillAt, with_piece_moved, still_level}
pub use Rattle.pz_sheet.specs.Presence.{cell_of, in_column, in_line, in_row, is_in, stands_in_line}
pub use Rattle.pz_sheet.specs.Runs.{holds_along, run_holds}
pub use Rattle.pz_sheet.specs.Searching.{HoldsInLine, HoldsSomewhere, SoughtRun, run_holds_from}
pub use Rattle.std.proofs.Common.{Bool, Err, List, None, Ok, Option, Some, [], add-one, ap, arith, cond, false, filter, get_or, inl, inr, length, length-take, map, min, mul-le-mul_right, nat_eq, refl, rules, set, subst, suc, sym, take, true, zero, ℕ, ◌&&◌, ◌*◌, ◌++◌, ◌+◌, ◌-◌, ◌<◌, ◌||◌, ◌∙◌, ◌∷◌, ◌≡◌, ◌≤◌, ◌⊎◌}
pub use Rattle.std.proofs.lemmas.Bool.{and_from, and_parts, cases_eq, cases_lt, eq-eqb, eqb-true, le-leb, leb-true, lt-leb, ltb-false, ltb-true, or_left, or_right}
pub use Rattle.std.proofs.lemmas.Grind.{common_steps}
pub use Rattle.std.proofs.lemmas.List.{append-nil, get_or-set_other, get_or-set_same, get_or-take, get_or_default, get_or_past, length-set, map-set, set_past, take_all, take_more}
pub use Rattle.std.proofs.lemmas.List.Elements.{All-contains, All-contains_itself, All-filter, Contains-append_cases, Contains-append_left, Contains-append_right, filter-append, filter_passes}
pub use Rattle.std.proofs.lemmas.List.Folds.{Any-from_list_any, list_all_at, list_all_more, list_any_at, list_any_more}
pub use Rattle.std.proofs.lemmas.List.FromFn.{get_or-map-range_with_len, get_or-range_with_len, length-enumerate_from, length-map-range_with_len, length-range_with_len}
pub use Rattle.std.proofs.lemmas.List.Sums.{AllPass-from_list_all, fold-append, list_all-from_AllPass, sum_by-cons, sum_by-le, sum_by-set}
pub use Rattle.std.proofs.lemmas.Slice.Zip.{get_or-zip, length-zip}
pub use Rattle.std.specs.List.{count_by, enumerate_from, flat_map, list_all, list_any, range_with_len, sum_by, zip}
pub use Rattle.std.specs.Prelude.{All, Contains, IfSome, IsTrue, fold, if◌then◌else◌, is_some, ◌↔◌}
