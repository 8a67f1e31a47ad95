-- The stops of a step are its limits: want of memory is none of them.
use Rattle.pz_turn.proofs.Common.{◌≢◌, ℕ, zero, suc, arith, List, [], ◌∷◌, Option, Result, Ok, Err, fold, Dir, GameParts, Instance, Program, RuleRow, Grid, places_or_limit, StepFault, Outcome, nothing_run, followed_by, places_of_rows, application_of, Runs, pass_of, passes, rest_of, group_runs, block_runs, blocks_run, then_moved, rules_run, given_input, step_of, players_of, One, Loop, Memory, PASSES}
use Rattle.pz_program.specs.declared.instance.Block.{Block}

-- a stop is none for want of memory
abbrev Stops : {A : Type 0} → Result A StepFault → Type 0
Stops r = r ≢ Err Memory

-- and neither is one of a run, from any level
abbrev AllStop : {L : Type 0} → Runs L → Type 0
AllStop {L} run = (level : L) → Stops (run level)

-- an instance
taken-stops : (level : Grid) (dir : Dir) (rows : List RuleRow) → Stops (places_of_rows level dir rows)
unfolding places_or_limit
taken-stops level dir [] e = cc
taken-stops level dir (row ∷ rows) e = grind (arith, taken-stops level dir rows, e)

applied-stops : (instance : Instance) → AllStop (application_of instance)
unfolding application_of
applied-stops instance level e = grind (arith, taken-stops level instance.scan instance.left, e)

-- passes
followed_by-stops : {L : Type 0} (first : Result (Outcome L) StepFault) (run : Runs L) → Stops first → AllStop run → Stops (followed_by first run)
followed_by-stops {L} first run h each e = grind (arith, h, λ (o : Outcome L). each o.level, e)

fold-stops : {L I : Type 0} (runs : I → Runs L) → ((x : I) → AllStop (runs x)) → (xs : List I) (so_far : Result (Outcome L) StepFault) → Stops so_far → Stops (fold (λ so_far x. followed_by so_far (runs x)) so_far xs)
fold-stops runs each [] so_far h = h
fold-stops runs each (x ∷ xs) so_far h = fold-stops runs each xs (followed_by so_far (runs x)) (followed_by-stops so_far (runs x) h (each x))

pass-stops : {L I : Type 0} (runs : I → Runs L) → ((x : I) → AllStop (runs x)) → (xs : List I) → AllStop (pass_of runs xs)
pass-stops runs each xs level = fold-stops runs each xs (Ok (nothing_run level)) (λ e. cc)

passes-stop : {L : Type 0} (pass : Runs L) → AllStop pass → (n : ℕ) → AllStop (passes pass n)
passes-stop pass each zero level e = cc
passes-stop pass each (suc n) level e = followed_by-stops (passes pass n level) pass (passes-stop pass each n level) each e

rest-stops : {L : Type 0} (limit : ℕ) (pass : Runs L) → AllStop pass → AllStop (rest_of limit pass)
unfolding rest_of
rest-stops limit pass each level e = grind (arith, λ (n : ℕ). passes-stop pass each (suc n) level, e)

-- a step
group-stops : (group : List Instance) → AllStop (group_runs PASSES application_of group)
group-stops group = rest-stops PASSES (pass_of application_of group) (pass-stops application_of applied-stops group)

block-stops : (block : Block) → AllStop (block_runs block)
unfolding block_runs
block-stops (One group) = group-stops group
block-stops (Loop groups) = rest-stops PASSES (pass_of (group_runs PASSES application_of) groups) (pass-stops (group_runs PASSES application_of) group-stops groups)

rules-stop : (program : Program) → AllStop (rules_run program)
unfolding rules_run blocks_run
rules-stop program level =
    followed_by-stops (then_moved (blocks_run program.early level)) (blocks_run program.late) (λ e. grind (arith, pass-stops block_runs block-stops program.early level, e)) (pass-stops block_runs block-stops program.late)

pub never_for_memory : (game : GameParts) (program : Program) (level : Grid) (input : Option Dir) → step_of game program level input ≢ Err Memory
unfolding step_of
never_for_memory game program level input e = grind (arith, rules-stop program (given_input (players_of game) input level), e)
