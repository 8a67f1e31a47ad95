-- The words of the proofs of this crate: what several of them import.
pub use Rattle.std.proofs.Common.{All, Bool, Bor, Err, Global, IfSome, List, None, Ok, Option, Result, Some, Vec, [], ap, ap₂, arith, cond, drop, false, fold, get_or, get_or-set_other, get_or-set_same, inl, inr, is_some, length, map, not, refl, rules, set, slice_index_or, slice_set, subst, suc, sym, take, true, ℕ, ◌%◌, ◌&&◌, ◌*◌, ◌++◌, ◌+◌, ◌-◌, ◌/◌, ◌<◌, ◌^◌, ◌∙◌, ◌∷◌, ◌≡◌, ◌≢◌, ◌≤◌}
pub use Rattle.std.proofs.lemmas.List.{append-nil, drop_all, drop_more, ext_get_or, get_or-map, get_or-take, length-map, length-set, length-take, map-set, take_all, take_more}
pub use Rattle.std.proofs.lemmas.Grind.{common_steps}
pub use Rattle.std.specs.List.{join_by, list_all}
pub use Rattle.std.specs.Prelude.{IfOk, codes, nat_lt, slice_index}
pub use Rattle.pz_game.specs.declared.game.GameParts.{GameParts}
pub use Rattle.pz_level_text.specs.CellOrder.{IsAt, cells_in, column_of, number_of, position_of, row_of}
pub use Rattle.pz_level_text.specs.Equality.{same_sets}
unfoldable pub use Rattle.pz_level_text.specs.Equality.{equals_recorded}
pub use Rattle.pz_level_text.specs.Labels.{IsLabelOf, IsLabelOfWord, TableView, WriterView, set_text, texts_in}
pub use Rattle.pz_level_text.specs.LevelNames.{chosen_from, sets_in}
unfoldable pub use Rattle.pz_level_text.specs.LevelNames.{standing_names}
pub use Rattle.pz_level_text.specs.LevelText.{HasNoComma}
unfoldable pub use Rattle.pz_level_text.specs.LevelText.{text_of_level}
pub use Rattle.pz_level_text.specs.Naming.{has_names}
pub use Rattle.pz_json_text.proofs.Changes.{both_changed, changed_again, known_still, labels_still, one_changed, still_kept}
pub use Rattle.pz_record.proofs.Sets.{all_of, all_seen, insert_seen}
pub use Rattle.pz_record.specs.CellNames.{has_name, set_of}
unfoldable pub use Rattle.pz_record.specs.CellNames.{same_set, with_name}
pub use Rattle.pz_json_text.specs.CellTexts.{text_of_names, text_of_cells}
unfoldable pub use Rattle.pz_json_text.specs.CellTexts.{piece, with_cell}
pub use Rattle.pz_json_text.specs.Labels.{text_at}
pub use Rattle.pz_json_text.specs.Written.{HasTextBut, IsSameBut}
pub use Rattle.pz_record.specs.declared.order.Order.{Order}
pub use Rattle.pz_sets.specs.Sets.{in_word, member}
pub use Rattle.pz_sheet.specs.Grid.{Grid, IsLawful, SameSize, cell_at}
pub use Rattle.pz_sheet.specs.Standing.{stands}
