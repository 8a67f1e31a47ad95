-- Moves are what sessions play.
use Rattle.std.proofs.Common.{◌≡◌, ℕ, zero, suc, ◌+◌, Bool, true, false, ◌&&◌, ◌||◌, [], ◌∷◌, Option, Some, None, Result, Ok, Err, refl, ap, sym, ◌∙◌, arith}
use Rattle.std.specs.Prelude.{if◌then◌else◌}
use Rattle.pz_game.specs.declared.direction.Dir.{Dir}
use Rattle.pz_game.specs.declared.game.GameParts.{GameParts}
use Rattle.pz_program.specs.declared.instance.Program.{Program}
use Rattle.pz_program.specs.Commands as command
use Rattle.pz_case.specs.declared.item.FrameKind.{FrameKind}
use Rattle.pz_case.specs.declared.item.FrameKind.TheVariants.{Move, Over, Tick}
use Rattle.pz_case.specs.FirstLevel.{level_from}
use Rattle.pz_sheet.specs.Grid.{Grid}
use Rattle.pz_turn.specs.declared.outcome.StepFault.{StepFault}
use Rattle.pz_turn.specs.Outcome.{Outcome}
unfoldable use Rattle.pz_turn.specs.Step.{step_of}
use Rattle.pz_turn.specs.Win.{has_won}
use Rattle.pz_session.specs.declared.chain.TheConstants.{MOST_TICKS}
unfoldable use Rattle.pz_session.specs.Board.{first_link, effect as session_effect, kept_link, press_link, reached_link, tick_link}
use Rattle.pz_session.specs.Board.{State, at_level, frame_of, idle, keeping, pressed_to, restart_link, showing_end, ticked_to, won_link}
use Rattle.pz_session.specs.Chain.{follow, with_frames_before, ticks as session_ticks}
use Rattle.pz_session.specs.Turn.{is_idle}
unfoldable use Rattle.pz_solve.specs.Moves.{effect, move_of, ticks, went_on}
use Rattle.pz_solve.specs.Moves.{Stands, Wins, DeadEnd, reached_by_press, reached_by_tick}
use Rattle.pz_solve.specs.Laws.{ComesToWin, EndsIn, press_chain}

-- a step that is cancelled ends with the level that it began with
stays : (game : GameParts) (program : Program) (grid : Grid) (input : Option Dir) (end : Outcome Grid) → step_of game program grid input ≡ Ok end → command.has end.commands command.cancel ≡ true → end.level ≡ grid
unfolding step_of
stays game program grid input end e cancelled = grind (arith, e, cancelled)

-- the ticks that are left end in the level that a move leads to
abbrev TicksStand : ℕ → Type 0
TicksStand left = (state : State) (level : Grid) → ticks state.game state.program left state.level ≡ Stands level → EndsIn state (session_ticks tick_link left state) level

-- the effect of a step does
effect_stands : (left : ℕ) → TicksStand left → (kind : FrameKind) (state : State) (end : Outcome Grid) (level : Grid) → (command.has end.commands command.cancel ≡ true → end.level ≡ state.level) →
    effect (ticks state.game state.program left) state.game end ≡ Stands level → EndsIn state (follow (session_ticks tick_link left) (Ok (session_effect kind state end))) level
unfolding effect went_on session_effect reached_link kept_link
effect_stands left later kind state end level cancelled =
    by (command.has end.commands command.cancel) (command.has end.commands command.restart) (command.has end.commands command.win || has_won state.game end.level) (command.has end.commands command.again && end.changed) cancelled where
      kept : State
      kept = record (at_level end.level state) { target = if command.has end.commands command.checkpoint then end.level else state.target }

      by : (c r w a : Bool) → (c ≡ true → end.level ≡ state.level) →
          (if c then Stands end.level else (if r then DeadEnd else (if w then Wins else (if a then ticks state.game state.program left end.level else Stands end.level)))) ≡ Stands level →
          EndsIn state (follow (session_ticks tick_link left) (Ok (
          if c then record { shown = frame_of state kind ∷ []; after = state; goes_on = false }
          else (if r then restart_link state
          else (if w then won_link (frame_of (at_level end.level state) kind) (at_level end.level state) (level_from state.game (state.entry + 1))
          else record { shown = frame_of (at_level end.level state) kind ∷ []; after = kept; goes_on = a }))))) level
      by true r w a same is = (state, refl, record { stands = sym (same refl) ∙ grind (arith, is); entry = refl; over = refl })
      by false true w a same is = absurd cc
      by false false true a same is = absurd cc
      by false false false false same is = (kept, refl, record { stands = grind (arith, is); entry = refl; over = refl })
      by false false false true same is =
          let it = later kept level is in
          (it.0, it.1, record { stands = it.2.stands; entry = it.2.entry; over = it.2.over })

pub ticks_stand : (left : ℕ) → TicksStand left
unfolding ticks tick_link
ticks_stand zero state level is = absurd cc
ticks_stand (suc left) state level is = by (ticks_stand left) (step_of state.game state.program state.level None) refl is where
  by : TicksStand left → (result : Result (Outcome Grid) StepFault) → step_of state.game state.program state.level None ≡ result → reached_by_tick (ticks state.game state.program left) state.game state.level result ≡ Stands level →
      EndsIn state (follow (session_ticks tick_link left) (ticked_to state result)) level
  by later (Err fault) at is = absurd cc
  by later (Ok end) at is = idle_or (is_idle end) is where
    idle_or : (b : Bool) → (if b then Stands state.level else effect (ticks state.game state.program left) state.game end) ≡ Stands level →
        EndsIn state (follow (session_ticks tick_link left) (Ok (if b then idle state else session_effect Tick state end))) level
    idle_or true is = (state, refl, record { stands = grind (arith, is); entry = refl; over = refl })
    idle_or false is = effect_stands left later Tick state end level (stays state.game state.program state.level None end at) is

pub moves_stand : (state : State) (input : Dir) (level : Grid) → state.is_over ≡ false → move_of state.game state.program state.level input ≡ Stands level → EndsIn state (press_chain input state) level
unfolding move_of first_link press_link
moves_stand state input level playing is =
    by state.is_over playing (step_of state.game state.program state.level (Some input)) refl is where
      by : (over : Bool) → over ≡ false → (result : Result (Outcome Grid) StepFault) → step_of state.game state.program state.level (Some input) ≡ result → reached_by_press (ticks state.game state.program MOST_TICKS) state.game result ≡ Stands level →
          EndsIn state (follow (session_ticks tick_link MOST_TICKS) (if over then Ok (showing_end Over state) else pressed_to state result)) level
      by true told result at is = absurd cc
      by false told (Err fault) at is = absurd cc
      by false told (Ok end) at is =
          let it = effect_stands MOST_TICKS (ticks_stand MOST_TICKS) Move (keeping state) end level (stays state.game state.program state.level (Some input) end at) is in
          (it.0, it.1, record { stands = it.2.stands; entry = it.2.entry; over = it.2.over })

-- the ticks that are left come to a win where a move does
abbrev TicksWin : ℕ → Type 0
TicksWin left = (state : State) → ticks state.game state.program left state.level ≡ Wins → ComesToWin state (session_ticks tick_link left state)

-- the effect of a step does
effect_wins : (left : ℕ) → TicksWin left → (kind : FrameKind) (state : State) (end : Outcome Grid) →
    effect (ticks state.game state.program left) state.game end ≡ Wins → ComesToWin state (follow (session_ticks tick_link left) (Ok (session_effect kind state end)))
unfolding effect went_on session_effect reached_link kept_link
effect_wins left later kind state end =
    by (command.has end.commands command.cancel) (command.has end.commands command.restart) (command.has end.commands command.win || has_won state.game end.level) (command.has end.commands command.again && end.changed) where
      kept : State
      kept = record (at_level end.level state) { target = if command.has end.commands command.checkpoint then end.level else state.target }

      by : (c r w a : Bool) →
          (if c then Stands end.level else (if r then DeadEnd else (if w then Wins else (if a then ticks state.game state.program left end.level else Stands end.level)))) ≡ Wins →
          ComesToWin state (follow (session_ticks tick_link left) (Ok (
          if c then record { shown = frame_of state kind ∷ []; after = state; goes_on = false }
          else (if r then restart_link state
          else (if w then won_link (frame_of (at_level end.level state) kind) (at_level end.level state) (level_from state.game (state.entry + 1))
          else record { shown = frame_of (at_level end.level state) kind ∷ []; after = kept; goes_on = a })))))
      by true r w a is = absurd cc
      by false true w a is = absurd cc
      by false false true a is = ([], frame_of (at_level end.level state) kind, at_level end.level state, left, refl, refl)
      by false false false false is = absurd cc
      by false false false true is =
          let it = later kept is in
          let first = frame_of (at_level end.level state) kind in
          (first ∷ it.0, it.1, it.2, it.3, it.4, ap (with_frames_before (first ∷ [])) it.5)

pub ticks_win : (left : ℕ) → TicksWin left
unfolding ticks tick_link
ticks_win zero state is = absurd cc
ticks_win (suc left) state is = by (ticks_win left) (step_of state.game state.program state.level None) is where
  by : TicksWin left → (result : Result (Outcome Grid) StepFault) → reached_by_tick (ticks state.game state.program left) state.game state.level result ≡ Wins → ComesToWin state (follow (session_ticks tick_link left) (ticked_to state result))
  by later (Err fault) is = absurd cc
  by later (Ok end) is = idle_or (is_idle end) is where
    idle_or : (b : Bool) → (if b then Stands state.level else effect (ticks state.game state.program left) state.game end) ≡ Wins →
        ComesToWin state (follow (session_ticks tick_link left) (Ok (if b then idle state else session_effect Tick state end)))
    idle_or true is = absurd cc
    idle_or false is = effect_wins left later Tick state end is

pub moves_win : (state : State) (input : Dir) → state.is_over ≡ false → move_of state.game state.program state.level input ≡ Wins → ComesToWin state (press_chain input state)
unfolding move_of first_link press_link
moves_win state input playing is =
    by state.is_over playing (step_of state.game state.program state.level (Some input)) is where
      by : (over : Bool) → over ≡ false → (result : Result (Outcome Grid) StepFault) → reached_by_press (ticks state.game state.program MOST_TICKS) state.game result ≡ Wins →
          ComesToWin state (follow (session_ticks tick_link MOST_TICKS) (if over then Ok (showing_end Over state) else pressed_to state result))
      by true told result is = absurd cc
      by false told (Err fault) is = absurd cc
      by false told (Ok end) is =
          let it = effect_wins MOST_TICKS (ticks_win MOST_TICKS) Move (keeping state) end is in
          (it.0, it.1, it.2, it.3, it.4, it.5)
