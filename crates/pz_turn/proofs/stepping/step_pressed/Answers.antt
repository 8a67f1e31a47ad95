use Rattle.pz_turn.proofs.Common.{◌≡◌, Option, Result, arith, ap, sym, ◌∙◌, Ok, err_from_is_err_and, Dir, Commands, Program, GameParts, Grid, StepFault, Outcome, end_of_step, given_input, with_cancel, rules_run, step_ended, step_of, players_of}
use Rattle.pz_turn.proofs.stepping.step_pressed.Goals as goal

-- how a step ends or stops
step_gives : (game : GameParts) (program : Program) (grid start : Grid) (input : Option Dir) (end : Result (Outcome Grid) StepFault) → start ≡ given_input (players_of game) input grid → rules_run program start ≡ end → step_of game program grid input ≡ step_ended game input grid end
unfolding step_of
step_gives game program grid start input end starts ends = grind (arith, starts, ends)

pub returns-in_err-given-clause-fault : goal.returns-in_err-given-clause-fault
returns-in_err-given-clause-fault c =
    let p = err_from_is_err_and c.from_residual.result c.from_residual.ensures.1 in
    rw (p.1, p.2) (λ not_memory. step_gives c.args.game.now c.args.program.now c.args.level.now.grid _ c.args.input _ c.requires.given (c.in_err-given.ensures.outcome not_memory))

pub returns-clause-end : goal.returns-clause-end
returns-clause-end c =
    let ends = step_gives c.args.game.now c.args.program.now c.args.level.now.grid _ c.args.input _ c.requires.given c.in_ok-given.ensures.outcome in
    let commands = c.with_cancel.ensures ∙ ap (λ b. with_cancel b c.in_ok-given.given.commands) c.must_cancel-cancelled.ensures in
    ends ∙ ap (λ (given : Commands). Ok (end_of_step c.args.level.now.grid c.run_rules.new.level.grid given)) (sym commands) ∙ ap Ok c.in_ok-end.ensures.end
