-- All levels of a session are its game's, and a step that is cancelled leaves the level.
use Rattle.pz_session.proofs.Common.{arith, ◌≡◌, ℕ, List, ◌∷◌, Option, Some, None, true, false, not, Result, Ok, Err, All, drop, refl, sym, subst, IfOk, GameParts, Commands, Program, has, cancel, Grid, IsOfGame, Outcome, given_input, must_cancel, with_cancel, end_of_step, step_ended, step_of, rules_run, FrameKind, Stop, Link, GivesLink, is_idle, State, at_level, restart_link, effect, keeping, press_link, tick_link, All-head, All-tail, same_grid, Shown, PlayFault}
use Rattle.pz_game.specs.declared.direction.Dir.{Dir}
use Rattle.pz_game.specs.Game.{players_of}
use Rattle.pz_bare.specs.Loading.{level_of_entry}
use Rattle.pz_grid.proofs.SameLemmas.{same_grid_is, same_grid_self}
use Rattle.pz_turn.specs.declared.outcome.StepFault.{StepFault}
use Rattle.pz_turn.specs.declared.stepping.StepEnd.{StepEnd}
use Rattle.pz_case.specs.declared.item.FrameKind.TheVariants.{Move, Tick}

-- a level that is loaded
pub loaded_of_game : (game : GameParts) (index : ℕ) (grid : Grid) → grid ≡ level_of_entry game index → IsOfGame game grid
loaded_of_game game index grid e = rw e (record { layers = refl; depth = refl })

-- what holds of the past holds of the newest of it and of the rest
pub taken : (P : Grid → Type 0) (old new : List Grid) (newest level : Grid) → All P old → old ≡ newest ∷ drop 1 old → level ≡ newest → new ≡ drop 1 old → P level × All P new
taken P old new newest level all first same rest =
    let held : All P (newest ∷ drop 1 old) = subst (All P) first all in
    (subst P (sym same) (All-head P newest (drop 1 old) held), subst (All P) (sym rest) (All-tail P newest (drop 1 old) held))

-- ---- a step that is cancelled
-- its end is the level that it began with
stays : (game : GameParts) (program : Program) (grid : Grid) (input : Option Dir) (end : Outcome Grid) → step_of game program grid input ≡ Ok end → has end.commands cancel ≡ true → end.level ≡ grid
unfolding step_of
stays game program grid input end e cancelled = grind (arith, e, cancelled)

pub stays_cancelled : (game : GameParts) (program : Program) (grid : Grid) (input : Option Dir) (result : Result StepEnd StepFault) → IfOk result (λ end. step_of game program grid input ≡ Ok (record { level = end.level.grid; commands = end.commands; changed = end.changed }))
    → IfOk result (λ end. has end.commands cancel ≡ true → end.level.grid ≡ grid)
stays_cancelled game program grid input (Ok end) e = stays game program grid input (record { level = end.level.grid; commands = end.commands; changed = end.changed }) e
stays_cancelled game program grid input (Err fault) e = tt

-- ---- whether a step changed the level
ended_changed : (before after : Grid) (commands : Commands) → same_grid before (end_of_step before after commands).level ≡ not (end_of_step before after commands).changed
ended_changed before after commands = grind (arith, same_grid_is before after, same_grid_is after before, same_grid_self before, same_grid_self after)

pub tells : (game : GameParts) (program : Program) (grid : Grid) (input : Option Dir) (end : Outcome Grid) → step_of game program grid input ≡ Ok end → same_grid grid end.level ≡ not end.changed
unfolding step_of
tells game program grid input end = by_run (rules_run program (given_input (players_of game) input grid)) where
  by_run : (run : Result (Outcome Grid) StepFault) → step_ended game input grid run ≡ Ok end → same_grid grid end.level ≡ not end.changed
  by_run (Err fault) e = cc
  by_run (Ok gone) e =
      let commands = with_cancel (must_cancel game input grid gone.level) gone.commands in
      let same : end_of_step grid gone.level commands ≡ end = cc in
      rw (← same) (ended_changed grid gone.level commands)

-- the effect of a step on the level that it began with is that on the one where it ends
pub effect_moved : (kind : FrameKind) (state : State) (end : Outcome Grid) → (has end.commands cancel ≡ true → end.level ≡ state.level) → effect kind (at_level end.level state) end ≡ effect kind state end
unfolding effect restart_link
effect_moved kind state end same = grind (arith, same)

-- a press whose step ends on a level that took the place of the one before it, which is kept
pub pressed : (dir : Dir) (state next after : State) (end : Outcome Grid) (result : Result Shown PlayFault) → step_of state.game state.program state.level (Some dir) ≡ Ok end → (has end.commands cancel ≡ true → end.level ≡ state.level)
    → next ≡ at_level end.level (keeping state) → GivesLink (Ok (effect Move next (record { level = next.level; commands = end.commands; changed = end.changed }))) after result → GivesLink (press_link dir state) after result
unfolding press_link
pressed dir state next after end result stepped same is given =
    let link : press_link dir state ≡ Ok (effect Move next (record { level = next.level; commands = end.commands; changed = end.changed })) = grind (arith, stepped, is, effect_moved Move (keeping state) end same) in
    subst (λ (l : Result (Link State) Stop). GivesLink l after result) (sym link) given

-- a tick that isn't idle, whose step ends on a level that took the place of the one before it
pub ticked : (state next after : State) (end : Outcome Grid) (result : Result Shown PlayFault) → step_of state.game state.program state.level None ≡ Ok end → is_idle end ≡ false → (has end.commands cancel ≡ true → end.level ≡ state.level)
    → next ≡ at_level end.level state → GivesLink (Ok (effect Tick next (record { level = next.level; commands = end.commands; changed = end.changed }))) after result → GivesLink (tick_link state) after result
unfolding tick_link
ticked state next after end result stepped busy same is given =
    let link : tick_link state ≡ Ok (effect Tick next (record { level = next.level; commands = end.commands; changed = end.changed })) = grind (arith, stepped, busy, is, effect_moved Tick state end same) in
    subst (λ (l : Result (Link State) Stop). GivesLink l after result) (sym link) given
