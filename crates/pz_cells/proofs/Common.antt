-- The words of the proofs of this crate: what several of them import.
pub use Rattle.std.proofs.Common.{Bool, List, None, Option, Some, [], ap, arith, cond, drop, eq-eqb, false, get_or, get_or-set_other, get_or-set_same, inl, inr, length, length-set, map, nat_eq, not, refl, set, subst, suc, sym, take, true, zero, ℕ, ◌%◌, ◌&&◌, ◌*◌, ◌++◌, ◌+◌, ◌-◌, ◌/◌, ◌<◌, ◌^◌, ◌||◌, ◌∙◌, ◌∷◌, ◌≡◌, ◌≢◌, ◌≤◌}
pub use Rattle.std.proofs.lemmas.Bool.{and_parts, cases_Bool, cases_eq, cases_lt, eqb-true, or_cases, or_parts, or_right}
pub use Rattle.std.proofs.lemmas.Grind.{common_steps}
pub use Rattle.std.proofs.lemmas.List.{at_drop_more, drop_all, ext_get_or, get_or-map, get_or_default, get_or_past, length-map, map_more}
pub use Rattle.std.proofs.lemmas.List.FromFn.{get_or-map-range_with_len, length-map-range_with_len}
pub use Rattle.std.specs.List.{list_any, range_with_len}
pub use Rattle.std.specs.Option.{option_map, option_map_or}
pub use Rattle.std.specs.Prelude.{All, IfSome, IsTrue, find, fold, is_some, replicate, ◌↔◌}
pub use Rattle.pz_cells.specs.Cell.{IsOnLayer, empty_cell, still_piece, still_place}
pub use Rattle.pz_cells.specs.Differing.{AreAlikeBetween, Differ}
pub use Rattle.pz_cells.specs.Drawing.{filled_cell, glyph_cell, with_object}
pub use Rattle.pz_cells.specs.Layering.{IsLayering, Layering}
pub use Rattle.pz_cells.specs.Lists.{AreAlike, AreMapped, HeadNowhere, IsSound, IsStilled, pieces_of_cell}
pub use Rattle.pz_cells.specs.Rewrites.{ends, is_displaced}
pub use Rattle.pz_cells.specs.Rewriting.{heading_of, kept, new_heading, piece_after, rewritten_cell, rewritten_place}
pub use Rattle.pz_cells.specs.Sameness.{same_cell, same_place}
pub use Rattle.pz_cells.specs.Shown.{AreLawful, Changes, IsSetOf, Shows, cell_of, piece_with, place_of, stands_on}
pub use Rattle.pz_cells.specs.Standing.{standing}
pub use Rattle.pz_cells.specs.declared.cell.Cell.{Cell}
pub use Rattle.pz_cells.specs.declared.piece.Piece.{Piece}
pub use Rattle.pz_game.proofs.FlagLemmas.{dir_bit-low, each_number, flag_of}
pub use Rattle.pz_game.specs.Direction.{same_dir}
pub use Rattle.pz_game.specs.Game.{glyph_objects}
pub use Rattle.pz_game.specs.Headings.{IsProper, first_of, flag, heading_in, heads, is_toward}
pub use Rattle.pz_game.specs.Items.{names, placed_on, places_on, tells_movement, tells_of}
pub use Rattle.pz_game.specs.Masks.{AreMasksOf, IsLow, asks_still, asks_toward, begins, is_still, settles, toward}
pub use Rattle.pz_game.specs.Pattern.{AreOf}
pub use Rattle.pz_game.specs.declared.direction.Dir.{Dir}
pub use Rattle.pz_game.specs.declared.masks.Masks.{Masks}
pub use Rattle.pz_game.specs.declared.pattern.Item.{Item}
pub use Rattle.pz_game.specs.declared.pattern.Word.{Word}
pub use Rattle.pz_game.specs.declared.direction.Dir.TheVariants.{Action, Down, Left, Right, Up}
pub use Rattle.pz_sets.specs.Sets.{AreApart, AreSame, IsWithin, member}
