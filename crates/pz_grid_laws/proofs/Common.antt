-- The words of the proofs of this crate: what several of them import.
pub use Rattle.pz_bare.specs.Loading.{level_of_entry, loaded_from}
pub use Rattle.pz_cells.proofs.CellLemmas.{OnItsLayer, standing_off_layer, standing_on_layer}
pub use Rattle.pz_cells.proofs.HoldLemmas.{placed_is}
pub use Rattle.pz_cells.specs.Cell.{IsCell, IsOnLayer, still_piece, still_place}
pub use Rattle.pz_cells.specs.Pattern.{pattern_holds}
pub use Rattle.pz_cells.specs.Rewriting.{kept, piece_after, rewritten_cell, rewritten_place}
pub use Rattle.pz_cells.specs.Standing.{standing}
pub use Rattle.pz_cells.specs.declared.piece.Piece.{Piece}
pub use Rattle.pz_game.specs.Drawing.{Drawing}
pub use Rattle.pz_game.specs.Game.{players_of}
pub use Rattle.pz_game.specs.Items.{forbids_object, names_object, placed_on, tells_of}
pub use Rattle.pz_game.specs.Pattern.{AreOf, RuleRow}
pub use Rattle.pz_game.specs.declared.denotation.Denotation.{Denotation}
pub use Rattle.pz_game.specs.declared.denotation.Kind.{Kind}
pub use Rattle.pz_game.specs.declared.denotation.Kind.TheVariants.{Aggregate, Object, Property}
pub use Rattle.pz_game.specs.declared.direction.Dir.{Dir}
pub use Rattle.pz_game.specs.declared.direction.Dir.TheVariants.{Action, Down, Left, Right, Up}
pub use Rattle.pz_game.specs.declared.game.GameParts.{GameParts}
pub use Rattle.pz_game.specs.declared.level.LevelEntry.TheVariants.{Level, Message}
pub use Rattle.pz_game.specs.declared.pattern.Item.{Item}
pub use Rattle.pz_game.specs.declared.pattern.Word.{Word}
pub use Rattle.pz_game.specs.declared.pattern.Word.TheVariants.{Absent, Present, Still, Toward}
pub use Rattle.pz_grid.proofs.StayLemmas.{kept_by_moves}
pub use Rattle.pz_grid.specs.Admitted.{admitted_count, searches_level, searches_line, start_count}
pub use Rattle.pz_grid.specs.Movement.{Pass, Spot, heading_goal, in_pass, moved_to, moving, pass_of, after_movement, settle, spots}
pub use Rattle.pz_grid.specs.Places.{places, still_matches}
unfoldable pub use Rattle.pz_grid.specs.Places.{places_or_limit}
pub use Rattle.pz_grid.specs.Rewriting.{in_rewrite, after_rewriting}
pub use Rattle.pz_grid.specs.declared.placing.Place.{Place}
pub use Rattle.pz_program.specs.declared.commands.Commands.{Commands}
pub use Rattle.pz_program.specs.declared.instance.Instance.{Instance}
pub use Rattle.pz_sheet.specs.Grid.{Grid, IsLawful, LevelState, cell_at, place_at, with_place}
pub use Rattle.pz_sheet.specs.Movement.{still_level}
pub use Rattle.pz_sheet.specs.Presence.{holds_each, holds_one, in_column, in_row}
pub use Rattle.pz_sheet.specs.Pushing.{is_one_of, pushed_level, pushed_place}
pub use Rattle.pz_sheet.specs.Sameness.{same_grid}
pub use Rattle.pz_sheet.specs.Standing.{heading_at, standing_at, stands}
pub use Rattle.std.proofs.Common.{Bool, List, None, Ok, Option, Some, [], arith, cond, false, get_or, inl, inr, length, map, refl, set, suc, sym, true, zero, ℕ, ◌*◌, ◌+◌, ◌<◌, ◌||◌, ◌∙◌, ◌∷◌, ◌≡◌}
pub use Rattle.std.proofs.lemmas.Bool.{cases_eq, cases_lt}
pub use Rattle.std.proofs.lemmas.List.{ext_get_or, get_or-map, get_or-set_other, get_or-set_same, get_or_past, length-map, length-set, set_past}
pub use Rattle.std.proofs.lemmas.List.Elements.{All-from_get_or, All-get_or, All-set}
pub use Rattle.std.proofs.lemmas.List.FromFn.{get_or-map-range_with_len, length-map-range_with_len}
pub use Rattle.std.specs.Prelude.{All, codes}
