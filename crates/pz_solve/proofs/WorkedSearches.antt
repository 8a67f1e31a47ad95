-- Worked cases of moves and of lists of presses.
use Rattle.std.proofs.Common.{◌≡◌, zero, true, false, [], ◌∷◌, Some, Err, refl}
use Rattle.pz_game.specs.declared.direction.Dir.TheVariants.{Up, Right}
use Rattle.pz_game.specs.declared.game.GameParts.{GameParts}
use Rattle.pz_program.specs.declared.instance.Program.{Program}
use Rattle.pz_program.specs.Commands.{again, cancel, either, restart, win}
use Rattle.pz_sheet.specs.Grid.{Grid}
use Rattle.pz_turn.specs.declared.outcome.StepFault.TheVariants.{LoopLimit}
use Rattle.pz_solve.specs.Moves.{Reached, Stands, Wins, DeadEnd, reached_by_press}
unfoldable use Rattle.pz_solve.specs.Moves.{effect, ticks, went_on}
use Rattle.pz_solve.specs.Winning.{Moves}
unfoldable use Rattle.pz_solve.specs.Winning.{stands_after, wins}

-- the moves of a level that the second press to the right wins
module _ (first second : Grid) (moves : Moves) (on : moves first Right ≡ Stands second) (won : moves second Right ≡ Wins) (stops : moves first Up ≡ DeadEnd) where
  two_presses_win : wins moves (Right ∷ Right ∷ []) first ≡ true
  unfolding wins
  two_presses_win = simp (on, won)

  one_is_too_few : wins moves (Right ∷ []) first ≡ false
  unfolding wins
  one_is_too_few = simp on

  three_are_too_many : wins moves (Right ∷ Right ∷ Up ∷ []) first ≡ false
  unfolding wins
  three_are_too_many = simp (on, won)

  a_dead_end_is_no_win : wins moves (Up ∷ Right ∷ []) first ≡ false
  unfolding wins
  a_dead_end_is_no_win = simp stops

  play_stands_in_the_second : stands_after moves (Right ∷ []) first ≡ Some second
  unfolding stands_after
  play_stands_in_the_second = simp on

module _ (tick : Grid → Reached) (game : GameParts) (program : Program) (before after : Grid) where
  -- a step that is stopped by a limit is a dead end
  a_limit_stops : reached_by_press tick game (Err LoopLimit) ≡ DeadEnd
  a_limit_stops = refl

  -- so are ticks of which none is allowed
  no_tick_is_left : ticks game program zero before ≡ DeadEnd
  unfolding ticks
  no_tick_is_left = refl

  -- cancel comes before win
  cancelled : effect tick game (record { level = before; commands = either cancel win; changed = false }) ≡ Stands before
  unfolding effect
  cancelled = refl

  -- and restart too
  restarted : effect tick game (record { level = after; commands = either restart win; changed = true }) ≡ DeadEnd
  unfolding effect
  restarted = refl

  won : effect tick game (record { level = after; commands = either win again; changed = true }) ≡ Wins
  unfolding effect went_on
  won = refl
