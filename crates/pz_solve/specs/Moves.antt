-- A move: the step of a press and the ticks of its `again` chain, as a session plays them. It leads to a level in which play goes on,
-- it wins, or it is a dead end. A dead end is a chain that stops (`loop-limit`, `match-limit`, or `again-limit` after the ticks that a
-- session allows), and also a step that gives `restart`: the level begins again, and a search follows no restart. So `checkpoint`, which
-- only a restart would show, changes nothing here. From a level's own beginning that leaves nothing out, unless a checkpoint was kept or
-- rules run at the start. Messages are no part of a level. There is no chance in a move: `random` is refused when a source is read.
use Rattle.std.specs.Prelude.{ℕ, zero, suc, ◌&&◌, ◌||◌, Some, None, Result, Ok, Err, if◌then◌else◌}
use Rattle.pz_game.specs.declared.direction.Dir.{Dir}
use Rattle.pz_game.specs.declared.game.GameParts.{GameParts}
use Rattle.pz_program.specs.declared.instance.Program.{Program}
use Rattle.pz_program.specs.Commands.{has, cancel, restart, win, again}
use Rattle.pz_sheet.specs.Grid.{Grid}
use Rattle.pz_turn.specs.declared.outcome.StepFault.{StepFault}
use Rattle.pz_turn.specs.Outcome.{Outcome}
use Rattle.pz_turn.specs.Step.{step_of}
use Rattle.pz_turn.specs.Win.{has_won}
use Rattle.pz_session.specs.declared.chain.TheConstants.{MOST_TICKS}
use Rattle.pz_session.specs.Turn.{is_idle}

-- where a move leads
pub data Reached : Type 0 where
  Stands : (level : Grid) → Reached
  Wins : Reached
  DeadEnd : Reached

-- a step that is neither cancelled nor restarts: it wins by `win` or by the win lines, or play goes on, after one more tick if the step
-- gave `again` and changed the level
unfoldable pub went_on : (Grid → Reached) → GameParts → Outcome Grid → Reached
went_on tick game end =
    if has end.commands win || has_won game end.level then Wins
    else (if has end.commands again && end.changed then tick end.level else Stands end.level)

-- the effect of a step: cancel, restart and win, in this order, each exclude all after it
unfoldable pub effect : (Grid → Reached) → GameParts → Outcome Grid → Reached
effect tick game end =
    if has end.commands cancel then Stands end.level
    else (if has end.commands restart then DeadEnd else went_on tick game end)

-- an idle tick ends the chain, and leaves the level as it was
abbrev pub reached_by_tick : (Grid → Reached) → GameParts → Grid → Result (Outcome Grid) StepFault → Reached
reached_by_tick tick game level (Err fault) = DeadEnd
reached_by_tick tick game level (Ok end) = if is_idle end then Stands level else effect tick game end

-- the ticks that follow; at most n may run
unfoldable pub ticks : GameParts → Program → ℕ → Grid → Reached
ticks game program zero level = DeadEnd
ticks game program (suc n) level = reached_by_tick (ticks game program n) game level (step_of game program level None)

abbrev pub reached_by_press : (Grid → Reached) → GameParts → Result (Outcome Grid) StepFault → Reached
reached_by_press tick game (Err fault) = DeadEnd
reached_by_press tick game (Ok end) = effect tick game end

-- the move of a press from a level
unfoldable pub move_of : GameParts → Program → Grid → Dir → Reached
move_of game program level input = reached_by_press (ticks game program MOST_TICKS) game (step_of game program level (Some input))

-- what a session plays before its first input: in a game with `run_rules_on_level_start` the ticks of the level's start
abbrev pub reached_at_start : GameParts → Program → Grid → Reached
reached_at_start game program level = if game.options.run_rules_on_level_start then ticks game program MOST_TICKS level else Stands level
