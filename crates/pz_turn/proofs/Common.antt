-- The words of the proofs of this crate: what several of them import.
pub use Rattle.std.proofs.Common.{Bool, Err, List, None, Ok, Option, Result, Some, [], add-one, ap, append_assoc, arith, below_more, cond, drop, eqb, false, fold, get_or, inl, inr, length, map, min, nat_eq, not, refl, set, subst, suc, sym, take, true, zero, ℕ, ◌*◌, ◌++◌, ◌+◌, ◌<◌, ◌&&◌, ◌||◌, ◌∙◌, ◌∷◌, ◌≡◌, ◌≢◌, ◌≤◌, ◌⊎◌}
pub use Rattle.std.proofs.Math.Bool.{and-true, or-false, or_assoc}
pub use Rattle.std.proofs.lemmas.Bool.Decides.{nat_tests}
pub use Rattle.std.proofs.lemmas.Bool.{cases_Bool, cases_lt, le-ltb, not-false, not-true, or_parts}
pub use Rattle.std.proofs.lemmas.Grind.{common_steps, drop-set_at, fold-append}
pub use Rattle.std.proofs.lemmas.List.Elements.{All-cons, All-drop, All-head, All-nil, All-tail, All-take, Contains-append_right}
pub use Rattle.std.proofs.lemmas.List.Folds.{fold_stays}
pub use Rattle.std.proofs.lemmas.List.FromFn.{get_or-map-range_with_len, get_or-range_with_len, length-map-range_with_len, length-range_with_len}
pub use Rattle.std.proofs.lemmas.List.{append-nil, at_drop_more, drop-drop, drop_all, drop_at, drop_more, ext_get_or, get_or-drop, get_or_default, length-drop, length-map, length-set, map-append, nil_from_length, set-get_or, take-append-drop, take_all, take_at, take_more}
pub use Rattle.std.proofs.lemmas.Result.{err_from_is_err_and}
pub use Rattle.std.specs.List.{All, enumerate_from, find, flat_map, list_all, list_any, range_with_len, zip}
pub use Rattle.std.specs.Prelude.{IfOk, codes}
pub use Rattle.pz_cells.proofs.SameLemmas.{same_cell_is, same_cell_self}
pub use Rattle.pz_cells.specs.Rewriting.{kept, new_heading, piece_after, rewritten_cell, rewritten_place}
pub use Rattle.pz_cells.specs.declared.piece.Piece.{Piece}
pub use Rattle.pz_game.specs.Game.{players_of}
pub use Rattle.pz_game.specs.Pattern.{AreRowsOf, AsksAmong, IsRowOf, RuleRow}
pub use Rattle.pz_game.specs.declared.direction.Dir.{Dir}
pub use Rattle.pz_game.specs.declared.game.GameParts.{GameParts}
pub use Rattle.pz_game.specs.declared.pattern.Item.{Item}
pub use Rattle.pz_game.specs.declared.pattern.Word.{Word}
pub use Rattle.pz_grid.proofs.CountLemmas.{searched-gapless, searched-small}
pub use Rattle.pz_grid.proofs.FoundLemmas.{searched-gives, searched-within}
pub use Rattle.pz_grid.proofs.MovementLemmas.{same_size_on}
pub use Rattle.pz_grid.specs.Places.{along, holds_at, places, position_of, row_of_one, still_holds}
unfoldable pub use Rattle.pz_grid.specs.Places.{places_or_limit}
pub use Rattle.pz_grid.specs.Rewriting.{Rewriting, in_rewrite, after_rewriting, rewritten_along, rewritten_at, rewritten_row}
pub use Rattle.pz_grid.specs.declared.placing.Place.{Place}
pub use Rattle.pz_program.specs.Commands.{cancel, either, no_commands}
pub use Rattle.pz_program.specs.Instance.{IsBlockOf, IsGroupOf, IsInstanceOf}
pub use Rattle.pz_program.specs.declared.commands.Commands.{Commands}
pub use Rattle.pz_program.specs.declared.instance.Block.TheVariants.{Loop, One}
pub use Rattle.pz_program.specs.declared.instance.Instance.{Instance}
pub use Rattle.pz_program.specs.declared.instance.Program.{Program}
pub use Rattle.pz_sheet.specs.Grid.{Grid, IsLawful, SameSize, cell_at}
pub use Rattle.pz_turn.specs.Calm.{AreCalmFrom, IsCalm}
pub use Rattle.pz_turn.specs.Combinations.{combinations}
pub use Rattle.pz_turn.specs.Applying.{HasNoEffect, IsOfOneCell, after_row, applied_at, applied_to, applied_with, found_or_stop, given_commands, one_rewritten, outcome_of, places_of_rows}
unfoldable pub use Rattle.pz_turn.specs.Applying.{application_of}
pub use Rattle.pz_turn.specs.Outcome.{GivesOutcome, Outcome, followed_by, outcome_behind, nothing_run}
pub use Rattle.pz_turn.specs.Rest.{Runs, ends, ends_after, group_runs, is_last, pass_of, passes, rests, up_to}
unfoldable pub use Rattle.pz_turn.specs.Rest.{rest_of}
unfoldable pub use Rattle.pz_turn.specs.Step.{block_runs, blocks_run, rules_run, step_of}
pub use Rattle.pz_turn.specs.Step.{end_of_step, given_input, keeps_player, step_ended, then_moved, with_cancel}
pub use Rattle.pz_turn.specs.Win.{fits_both, fits_if, line_holds}
unfoldable pub use Rattle.pz_turn.specs.Win.{has_won}
pub use Rattle.pz_turn.specs.declared.outcome.Given.{Given}
pub use Rattle.pz_turn.specs.declared.outcome.StepFault.TheVariants.{LoopLimit, Memory}
pub use Rattle.pz_turn.specs.declared.outcome.StepFault.{StepFault}
pub use Rattle.pz_turn.specs.declared.resting.TheConstants.{PASSES}
