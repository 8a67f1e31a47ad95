-- The words of the proofs of this crate: what several of them import.
pub use Rattle.std.proofs.Common.{All, Bool, Err, IfOk, List, None, Ok, Option, Result, Some, [], ap, ap₂, arith, cond, drop, false, get_or, if◌then◌else◌, is_none, length, map, nat_lt, not, option_map, option_to_list, refl, rules, subst, suc, sym, true, zero, ℕ, ◌&&◌, ◌*◌, ◌++◌, ◌+◌, ◌-◌, ◌<◌, ◌^◌, ◌||◌, ◌∙◌, ◌∷◌, ◌≡◌, ◌≤◌}
pub use Rattle.std.proofs.lemmas.Bool.{and_parts, false≢true, ltb-false, ltb-true}
pub use Rattle.std.proofs.lemmas.List.Elements.{All-head, All-nil, All-same, All-tail}
pub use Rattle.std.proofs.lemmas.List.{append_assoc, drop_all, drop_more, get_or_default, length-append, length-map, map-append}
pub use Rattle.std.proofs.lemmas.Result.{on_ok_weaker}
pub use Rattle.std.specs.Prelude.{IfSome, codes, ◌==◌}
unfoldable pub use Rattle.pz_case.specs.FirstLevel.{level_from}
pub use Rattle.pz_case.specs.Plan.{PlanState}
pub use Rattle.pz_session.specs.declared.chain.Frame.{Frame}
pub use Rattle.pz_case.specs.declared.item.FrameKind.{FrameKind}
pub use Rattle.pz_case.specs.declared.item.Item.{Item}
pub use Rattle.pz_case.specs.declared.item.Refusal.TheVariants.{NoLevel}
pub use Rattle.pz_case.specs.declared.item.Stop.{Stop}
pub use Rattle.pz_case.specs.declared.item.Verdict.TheVariants.{Differs, Passed, Refused, Stopped}
pub use Rattle.pz_cells.specs.declared.piece.Piece.{Piece}
pub use Rattle.pz_game.specs.declared.denotation.Denotation.{Denotation}
pub use Rattle.pz_game.specs.declared.denotation.Kind.TheVariants.{Object}
pub use Rattle.pz_game.specs.declared.direction.Dir.TheVariants.{Left, Right, Up}
pub use Rattle.pz_game.specs.declared.game.GameParts.{GameParts}
pub use Rattle.pz_game.specs.declared.level.LevelEntry.TheVariants.{Level, Message}
pub use Rattle.pz_game.specs.declared.level.LevelEntry.{LevelEntry}
unfoldable pub use Rattle.pz_level_text.specs.Equality.{equals_recorded}
pub use Rattle.pz_level_text.specs.Labels.{WriterView}
unfoldable pub use Rattle.pz_level_text.specs.LevelText.{text_of_level}
pub use Rattle.pz_program.specs.Commands.{cancel, either, has, restart}
pub use Rattle.pz_program.specs.declared.commands.Commands.{Commands}
pub use Rattle.pz_program.specs.declared.instance.Program.{Program}
pub use Rattle.pz_record.specs.declared.input.Input.TheVariants.{Press, Restart, Tick, Undo}
pub use Rattle.pz_record.specs.declared.input.Input.{Input}
pub use Rattle.pz_record.specs.declared.order.Order.TheVariants.{Rows}
pub use Rattle.pz_session.specs.Board.{State, at_level, board_links, idle, input_link, keeping, loaded_at, pressed_to, showing_end, ticked_to, verdict_of}
unfoldable pub use Rattle.pz_session.specs.Board.{first_link, effect, frame_of, kept_link, press_link, reached_link, restart_link, with_past, start_link, tick_link, undo_link, won_link}
unfoldable pub use Rattle.pz_session.specs.Case.{items_of_plan, played_items}
pub use Rattle.pz_session.specs.Case.{state_of}
pub use Rattle.pz_session.specs.Chain.{Chain, GivesLink, Link, follow, with_frames_before, shown_frames, ticks}
pub use Rattle.pz_session.specs.Inside.{HasLabels, state_in}
pub use Rattle.pz_session.specs.Player.{is_waiting, is_waiting_in, items_left, left_with, pending, to_follow, work}
unfoldable pub use Rattle.pz_session.specs.Player.{left_in, to_come}
pub use Rattle.pz_session.specs.Session.{Links, Played, after_chain, closing, going_on, showing, ticks_after}
unfoldable pub use Rattle.pz_session.specs.Session.{items_from, frames_as_items, play_from}
pub use Rattle.pz_session.specs.Turn.{is_idle}
pub use Rattle.pz_session.specs.declared.chain.PlayFault.{PlayFault}
pub use Rattle.pz_session.specs.declared.chain.Shown.{Shown}
pub use Rattle.pz_session.specs.declared.chain.TheConstants.{MOST_TICKS}
pub use Rattle.pz_session.specs.declared.player.Player.{Player}
pub use Rattle.pz_sheet.specs.Grid.{Grid, IsOfGame, LevelState}
pub use Rattle.pz_sheet.specs.Sameness.{same_grid}
pub use Rattle.pz_turn.specs.Outcome.{Outcome}
unfoldable pub use Rattle.pz_turn.specs.Step.{block_runs, blocks_run, rules_run, step_of}
pub use Rattle.pz_turn.specs.Step.{end_of_step, given_input, must_cancel, step_ended, with_cancel}
unfoldable pub use Rattle.pz_turn.specs.Win.{has_won}
