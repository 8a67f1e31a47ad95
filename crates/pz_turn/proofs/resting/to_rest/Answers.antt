use Rattle.pz_turn.proofs.Common.{rest_of, up_to, refl, ◌≡◌, Bool, cond, take, Ok, arith, ap, ◌∙◌, subst, err_from_is_err_and, same_size_on, Grid, Outcome, outcome_behind, pass_of, ends, not-false, not-true}
use Rattle.pz_turn.proofs.Passes.{calm_rest, calm_more, rest_ends, find_none, running_more}
use Rattle.pz_turn.proofs.resting.to_rest.Goals as goal

pub returns-in_err-passed-clause-outcome : goal.returns-in_err-passed-clause-outcome
returns-in_err-passed-clause-outcome g c =
    let p = err_from_is_err_and c.from_residual.result c.from_residual.ensures.1 in
    rw (p.1, p.2) (λ not_memory.
    let stops = c.in_err-passed.ensures.outcome not_memory in
    rest_ends _ _ _ _ _ c.passes.invariant.running (omega arith) (ap ends stops) ∙ ap (outcome_behind (record { level = c.passes.level.grid; commands = c.passes.so_far.commands; changed = c.passes.so_far.changed })) stops)

pub returns-then-not-passed-clause-outcome : goal.returns-then-not-passed-clause-outcome
returns-then-not-passed-clause-outcome g c =
    let now = c.passes in
    let given = c.in_ok-passed.passed.given in
    let o : Outcome Grid = record { level = now.level.grid; commands = now.so_far.commands; changed = now.so_far.changed } in
    let quiet = not-true given.changed c.if-not-passed.true in
    let rest = calm_rest (g.T.Runnable.runs c.args.whole.now) c.args.items.now o given.commands given.changed c.pass_after.new.level.grid now.calm_from now.invariant.calm c.in_ok-passed.ensures.outcome quiet (c.in_ok-passed.ensures.kept quiet) in
    rw c.and-so_far.ensures (rest_ends _ _ _ _ _ now.invariant.running (omega arith) rest.0 ∙ rest.1)

pub passes-preserved : goal.passes-preserved
passes-preserved g c =
    let runs = g.T.Runnable.runs c.args.whole.now in
    let items = c.args.items.now in
    let now = c.passes in
    let passed = c.in_ok-passed.passed in
    let after = c.pass_after.new.level.grid in
    let o : Outcome Grid = record { level = now.level.grid; commands = now.so_far.commands; changed = now.so_far.changed } in
    let p : Outcome Grid = record { level = after; commands = passed.given.commands; changed = passed.given.changed } in
    let changes = not-false passed.given.changed c.if-not-passed.false in
    record {
      running = rw c.and-so_far.ensures (running_more (pass_of runs items) c.args.level.now.grid now.counter o p _ now.invariant.running (subst (λ (b : Bool). pass_of runs (cond b items (take now.calm_from items)) o.level ≡ Ok p) changes c.in_ok-passed.ensures.outcome) changes refl);
      calm = rw c.and-so_far.ensures (calm_more runs items now.so_far.commands passed.given.commands after passed.calm_from (c.in_ok-passed.ensures.calm changes));
      kept = λ none. absurd (grind (arith, changes, none));
      size = same_size_on _ _ _ now.invariant.size c.in_ok-passed.ensures.size;
    }

pub returns-clause-outcome : goal.returns-clause-outcome
unfolding rest_of
returns-clause-outcome g c = λ _. ap (up_to _ _) (find_none _ 200 (λ k below. c.passes.invariant.running.went_on k (omega arith)))
