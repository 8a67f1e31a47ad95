-- The game, its rules, the order and the recorded level of a session stay as they are, whatever is played.
use Rattle.std.proofs.Common.{ℕ, zero, suc, Bool, true, false, List, [], ◌∷◌, Option, Some, None, Result, Ok, Err, refl, ◌∙◌, if◌then◌else◌, ◌+◌, ◌||◌}
use Rattle.std.specs.Bool.{⊤}
use Rattle.pz_record.specs.declared.input.Input.{Input}
use Rattle.pz_record.specs.declared.input.Input.TheVariants as input
use Rattle.pz_program.specs.declared.commands.Commands.{Commands}
use Rattle.pz_case.specs.declared.item.Stop.{Stop}
use Rattle.pz_case.specs.declared.item.FrameKind.{FrameKind}
use Rattle.pz_sheet.specs.Grid.{Grid}
use Rattle.pz_turn.specs.declared.outcome.StepFault.{StepFault}
use Rattle.pz_turn.specs.Outcome.{Outcome}
use Rattle.pz_turn.specs.Step.{step_of}
use Rattle.pz_turn.specs.Win.{has_won}
use Rattle.pz_program.specs.Commands as command
use Rattle.pz_case.specs.FirstLevel.{level_from}
use Rattle.pz_case.specs.declared.item.FrameKind.TheVariants.{Move, Tick, Over}
use Rattle.pz_session.specs.declared.chain.Frame.{Frame}
use Rattle.pz_session.specs.Chain.{Chain, Link, follow, with_frames_before, ticks}
use Rattle.pz_session.specs.Session.{ticks_after}
use Rattle.pz_session.specs.declared.chain.TheConstants.{MOST_TICKS}
use Rattle.pz_session.specs.Turn.{is_idle}
use Rattle.pz_session.specs.Board.{State, at_level, idle, input_link, keeping, pressed_to, showing_end, ticked_to, undo_to}
unfoldable use Rattle.pz_session.specs.Board.{first_link, effect, frame_of, kept_link, press_link, reached_link, restart_link, with_past, start_link, tick_link, undo_link, won_link}
use Rattle.pz_steps.specs.Steps.{chain_of, start_chain}
use Rattle.pz_open.specs.Opened.{KeepsPlan}

same : (state : State) → KeepsPlan state state
same state = record { game = refl; program = refl; order = refl; recorded = refl }

abbrev AfterKeeps : State → Result (Link State) Stop → Type 0
AfterKeeps state (Err stop) = ⊤
AfterKeeps state (Ok link) = KeepsPlan state link.after

either : (state : State) (b : Bool) (x y : Link State) → KeepsPlan state x.after → KeepsPlan state y.after → KeepsPlan state (if b then x else y).after
either state true x y k l = k
either state false x y k l = l

either_of : (state : State) (b : Bool) (x y : Result (Link State) Stop) → AfterKeeps state x → AfterKeeps state y → AfterKeeps state (if b then x else y)
either_of state true x y k l = k
either_of state false x y k l = l

won_keeps : (won : Frame) (state : State) (next : Option ℕ) → KeepsPlan state (won_link won state next).after
unfolding won_link
won_keeps won state None = record { game = refl; program = refl; order = refl; recorded = refl }
won_keeps won state (Some next) = record { game = refl; program = refl; order = refl; recorded = refl }

won_link_keeps : (kind : FrameKind) (state : State) (level : Grid) → KeepsPlan state (won_link (frame_of (at_level level state) kind) (at_level level state) (level_from state.game (state.entry + 1))).after
won_link_keeps kind state level =
    let keeps = won_keeps (frame_of (at_level level state) kind) (at_level level state) (level_from state.game (state.entry + 1)) in
    record { game = keeps.game; program = keeps.program; order = keeps.order; recorded = keeps.recorded }

reached_keeps : (kind : FrameKind) (commands : Commands) (changed : Bool) (state : State) (level : Grid) → KeepsPlan state (reached_link kind commands changed (at_level level state)).after
unfolding reached_link kept_link
reached_keeps kind commands changed state level =
    either state (command.has commands command.win || has_won state.game level) (won_link (frame_of (at_level level state) kind) (at_level level state) (level_from state.game (state.entry + 1)))
    (kept_link kind commands changed (at_level level state)) (won_link_keeps kind state level) (record { game = refl; program = refl; order = refl; recorded = refl })

effect_keeps : (kind : FrameKind) (state : State) (end : Outcome Grid) → KeepsPlan state (effect kind state end).after
unfolding effect restart_link
effect_keeps kind state end =
    either state (command.has end.commands command.cancel) (showing_end kind state) (if command.has end.commands command.restart then restart_link state else reached_link kind end.commands end.changed (at_level end.level state)) (same state)
    (either state (command.has end.commands command.restart) (restart_link state) (reached_link kind end.commands end.changed (at_level end.level state)) (record { game = refl; program = refl; order = refl; recorded = refl }) (reached_keeps kind end.commands end.changed state end.level))

pressed_keeps : (state : State) (end : Result (Outcome Grid) StepFault) → AfterKeeps state (pressed_to state end)
pressed_keeps state (Err fault) = tt
pressed_keeps state (Ok end) = let keeps = effect_keeps Move (keeping state) end in record { game = keeps.game; program = keeps.program; order = keeps.order; recorded = keeps.recorded }

ticked_keeps : (state : State) (end : Result (Outcome Grid) StepFault) → AfterKeeps state (ticked_to state end)
ticked_keeps state (Err fault) = tt
ticked_keeps state (Ok end) = either state (is_idle end) (idle state) (effect Tick state end) (same state) (effect_keeps Tick state end)

tick_keeps : (state : State) → AfterKeeps state (tick_link state)
unfolding tick_link
tick_keeps state = ticked_keeps state (step_of state.game state.program state.level None)

undone_keeps : (state : State) (past : List Grid) → KeepsPlan state (undo_to state past)
undone_keeps state [] = same state
undone_keeps state (last ∷ past) = record { game = refl; program = refl; order = refl; recorded = refl }

input_keeps : (i : Input) (state : State) → AfterKeeps state (input_link i state)
unfolding press_link undo_link restart_link
input_keeps (input.Press dir) state = pressed_keeps state (step_of state.game state.program state.level (Some dir))
input_keeps input.Undo state = undone_keeps state state.past
input_keeps input.Restart state = record { game = refl; program = refl; order = refl; recorded = refl }
input_keeps input.Tick state = tick_keeps state

begun_keeps : (i : Input) (state : State) → AfterKeeps state (first_link i state)
unfolding first_link
begun_keeps i state = either_of state state.is_over (Ok (showing_end Over state)) (input_link i state) (same state) (input_keeps i state)

-- so do chains
abbrev pub EndKeeps : State → Result State Stop → Type 0
EndKeeps state (Err stop) = ⊤
EndKeeps state (Ok after) = KeepsPlan state after

carried : {a b : State} → KeepsPlan a b → (end : Result State Stop) → EndKeeps b end → EndKeeps a end
carried keeps (Err stop) k = tt
carried keeps (Ok after) k = record { game = k.game ∙ keeps.game; program = k.program ∙ keeps.program; order = k.order ∙ keeps.order; recorded = k.recorded ∙ keeps.recorded }

followed : (state : State) (link : Result (Link State) Stop) (later : State → Chain State) → AfterKeeps state link → ((s : State) → EndKeeps s (later s).after) → EndKeeps state (follow later link).after
followed state (Err stop) later keeps ends = tt
followed state (Ok link) later keeps ends = by_goes link.goes_on where
  by_goes : (goes_on : Bool) → EndKeeps state (if goes_on then with_frames_before link.shown (later link.after) else record { shown = link.shown; after = Ok link.after }).after
  by_goes true = carried keeps (later link.after).after (ends link.after)
  by_goes false = keeps

ticks_keep : (n : ℕ) (state : State) → EndKeeps state (ticks tick_link n state).after
ticks_keep zero state = tt
ticks_keep (suc n) state = followed state (tick_link state) (ticks tick_link n) (tick_keeps state) (ticks_keep n)

pub chain_keeps : (i : Input) (state : State) → EndKeeps state (chain_of i state).after
chain_keeps i state = followed state (first_link i state) (ticks tick_link (ticks_after i)) (begun_keeps i state) (ticks_keep (ticks_after i))

pub start_keeps : (state : State) → EndKeeps state (start_chain state).after
unfolding start_link
start_keeps state = followed state (Ok (start_link state)) (ticks tick_link MOST_TICKS) (same state) (ticks_keep MOST_TICKS)

pub settled_keeps : (state : State) → KeepsPlan state (with_past state)
unfolding with_past
settled_keeps state = record { game = refl; program = refl; order = refl; recorded = refl }
