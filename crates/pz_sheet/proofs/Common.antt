-- The words of the proofs of this crate: what several of them import.
pub use Rattle.std.proofs.Common.{Bool, List, None, Option, Some, [], ap, arith, cond, drop, eq-eqb, false, get_or, get_or-set_other, get_or-set_same, inl, inr, is_some, length, length-append, length-drop, length-take, map, nat_eq, not, refl, set, subst, suc, sym, take, true, zero, ℕ, ◌%◌, ◌&&◌, ◌*◌, ◌++◌, ◌+◌, ◌-◌, ◌/◌, ◌<◌, ◌||◌, ◌∙◌, ◌∷◌, ◌≡◌, ◌≢◌, ◌≤◌, ◌⊎◌}
pub use Rattle.std.proofs.lemmas.Bool.{and_parts, and_right, cases_Bool, cases_eq, cases_lt, eqb-true, false≢true, le-leb, le-ltb, lt-leb, lt-ltb, not-false, true_from_ne_false}
pub use Rattle.std.proofs.lemmas.Grind.{common_steps}
pub use Rattle.std.proofs.lemmas.List.{drop_all, drop_more, ext_get_or, get_or-map, get_or_default, length-map, length-set, map-id, map-set, set-get_or, take_all}
pub use Rattle.std.proofs.lemmas.List.Folds.{list_all_at, list_all_more, list_any-append, list_any_at, list_any_none, map_fixed}
pub use Rattle.std.proofs.lemmas.List.FromFn.{get_or-enumerate_from, get_or-range_with_len, length-enumerate_from, length-map-range_with_len, length-range_with_len, map-range_with_len_more, sum_by-map-range_with_len_more}
pub use Rattle.std.proofs.lemmas.Nat.{div-mul-add, mod-mul-add, mul-add-lt}
pub use Rattle.std.specs.List.{All, count_by, enumerate_from, list_all, list_any, range_with_len, sum_by}
pub use Rattle.std.specs.Prelude.{IfSome, IsTrue, MatchOption, fold, nat_le, nat_lt, ◌↔◌}
pub use Rattle.std.proofs.Math.Seq.{set-append_seam}
pub use Rattle.pz_cells.proofs.DrawLemmas.{AreGlyphs, no_number}
pub use Rattle.pz_cells.proofs.HoldLemmas.{asked_by, low_of_game, met_all, on_its_layer, standing_by, standing_seen}
pub use Rattle.pz_cells.proofs.ListLemmas.{cell_mapped, no_cell, small_cell, sound_at}
pub use Rattle.pz_cells.proofs.RewriteLemmas.{cell_alike, heads_alike, member_seen, objects_alike}
pub use Rattle.pz_cells.proofs.SameLemmas.{same_cell_is, same_cell_self}
pub use Rattle.pz_cells.specs.Cell.{IsCell, IsOnLayer, still_place}
pub use Rattle.pz_cells.specs.Drawing.{filled_cell, glyph_cell}
pub use Rattle.pz_cells.specs.Layering.{IsLayering, Layering}
pub use Rattle.pz_cells.specs.Lists.{AreAlike, AreMapped, IsSound, pieces_of_cell}
pub use Rattle.pz_cells.specs.Pattern.{pattern_holds}
pub use Rattle.pz_cells.specs.Sameness.{same_cell}
pub use Rattle.pz_cells.specs.Shown.{AreLawful, Changes, Shows, place_of}
pub use Rattle.pz_cells.specs.Standing.{standing}
pub use Rattle.pz_cells.specs.declared.cell.Cell.{Cell}
pub use Rattle.pz_cells.specs.declared.piece.Piece.{Piece}
pub use Rattle.pz_cells.specs.Differing.{IsNextDiffering}
pub use Rattle.pz_game.proofs.FlagLemmas.{each_number, flag_of}
pub use Rattle.pz_game.specs.Headings.{flag, heading_in, heads, is_toward}
pub use Rattle.pz_game.specs.Masks.{IsLow, asks_toward, toward}
pub use Rattle.pz_game.specs.Pattern.{AreOf, AreRequired}
pub use Rattle.pz_game.specs.Size.{IsSize}
pub use Rattle.pz_game.specs.declared.direction.Dir.{Dir}
pub use Rattle.pz_game.specs.declared.pattern.Item.{Item}
pub use Rattle.pz_planes.proofs.PlaneLemmas.{AreThereAt, column_in, covers_all, known_of, number_of, row_in, still_there_at}
pub use Rattle.pz_planes.specs.Line.{room_from, step_to}
pub use Rattle.pz_planes.specs.Marks.{AreMarks}
pub use Rattle.pz_planes.specs.Notes.{HeadingSets, IsWider, headings_of}
pub use Rattle.pz_planes.specs.Planes.{AreChanged, AreItemsOf, AreKnown, AreThere, HaveSameLines, IsFor, IsMissingIn, LineSets, MayHold, MayRun, PlaneSets, lines_of, stands_in}
pub use Rattle.pz_planes.specs.declared.line.Axis.{Axis}
pub use Rattle.pz_planes.specs.declared.line.Axis.TheVariants.{Horizontal, Vertical}
pub use Rattle.pz_planes.specs.declared.line.Way.{Way}
pub use Rattle.pz_planes.specs.declared.line.Way.TheVariants.{Ahead, Back}
pub use Rattle.pz_sets.specs.Sets.{AreApart, IsWithin, in_word, member}
pub use Rattle.pz_sets.specs.Next.{IsNext}
pub use Rattle.pz_sheet.specs.Changes.{CellChange, IsChangeOf, cell_there, changed_cells, changed_from, changes_seen, differ_in, with_cells_back, with_cell}
pub use Rattle.pz_sheet.specs.Grid.{BareState, Grid, IsLawful, SameSize, cell_at, layers_in, place_at, with_place}
pub use Rattle.pz_sheet.specs.Holding.{IsSetFor}
pub use Rattle.pz_sheet.specs.Line.{dir_along, dir_of, holds_in, line_count, line_length, runs_in, x_at, y_at}
pub use Rattle.pz_sheet.specs.Noting.{AreAllThere, ArePlaced, EndWithin}
pub use Rattle.pz_sheet.specs.Presence.{AreMissing, cell_of, holds_both, holds_if, in_line, is_in, stands_in_line}
pub use Rattle.pz_sheet.specs.Pushing.{is_one_of, pushed_at, pushed_place}
pub use Rattle.pz_sheet.specs.Runs.{holds_along, holds_at, on_map, run_holds}
pub use Rattle.pz_sheet.specs.Searching.{HoldsInLine, HoldsSomewhere, run_holds_from}
pub use Rattle.pz_sheet.specs.Seen.{AreNoted, HeadsWithin, IsNoted, IsStored, grid_of}
pub use Rattle.pz_sheet.specs.declared.line.Line.{Line}
pub use Rattle.pz_sheet.specs.declared.line.Walk.{Walk}
pub use Rattle.pz_sheet.specs.declared.changes.Change.{Change}
