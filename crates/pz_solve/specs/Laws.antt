-- Laws of moves: they are what sessions play.
use Rattle.std.specs.Prelude.{◌≡◌, ℕ, ◌+◌, false, List, Ok}
use Rattle.pz_game.specs.declared.direction.Dir.{Dir}
use Rattle.pz_record.specs.declared.input.Input.TheVariants.{Press}
use Rattle.pz_case.specs.FirstLevel.{level_from}
use Rattle.pz_sheet.specs.Grid.{Grid}
use Rattle.pz_session.specs.declared.chain.Frame.{Frame}
use Rattle.pz_session.specs.declared.chain.TheConstants.{MOST_TICKS}
use Rattle.pz_session.specs.Board.{State, first_link, tick_link, won_link}
use Rattle.pz_session.specs.Chain.{Chain, follow, with_frames_before, ticks}
use Rattle.pz_solve.specs.Moves.{Stands, Wins, move_of}

-- the chain of a press
abbrev pub press_chain : Dir → State → Chain State
press_chain input state = follow (ticks tick_link MOST_TICKS) (first_link (Press input) state)

-- a session stands in a level of the entry that was played
pub record IsStill (state end : State) (level : Grid) : Type 0 where
  pub stands : end.level ≡ level
  pub entry : end.entry ≡ state.entry
  pub over : end.is_over ≡ state.is_over

-- a chain ends there
abbrev pub EndsIn : State → Chain State → Grid → Type 0
EndsIn state chain level = (end : State) × (chain.after ≡ Ok end) × IsStill state end level

-- where a move leads to a level, the chain of that press ends in it
abbrev pub MovesStandInSessions : Type 0
MovesStandInSessions = (state : State) (input : Dir) (level : Grid) → state.is_over ≡ false → move_of state.game state.program state.level input ≡ Stands level → EndsIn state (press_chain input state) level

-- a chain comes to a win of the entry that was played
abbrev pub ComesToWin : State → Chain State → Type 0
ComesToWin state chain =
    (frames : List Frame) × (frame : Frame) × (won : State) × (left : ℕ) × (won.entry ≡ state.entry)
    × (chain ≡ with_frames_before frames (follow (ticks tick_link left) (Ok (won_link frame won (level_from won.game (won.entry + 1))))))

-- where a move wins, so does the chain of that press
abbrev pub MovesWinInSessions : Type 0
MovesWinInSessions = (state : State) (input : Dir) → state.is_over ≡ false → move_of state.game state.program state.level input ≡ Wins → ComesToWin state (press_chain input state)
