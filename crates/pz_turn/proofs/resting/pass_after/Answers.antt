use Rattle.pz_turn.proofs.Common.{◌≡◌, ◌+◌, false, inl, inr, refl, arith, err_from_is_err_and, Grid, same_size_on, Outcome}
use Rattle.pz_turn.proofs.Passes.{passing_changed, passing_quiet, passing_stops}
use Rattle.pz_turn.proofs.resting.pass_after.Goals.{then-given+then-given-2, then-given+else-given-2, else-given, else-index-calm_from-via-then-index-calm_from+else-not-so_far, else-index-calm_from-via-else-index-calm_from}
use Rattle.pz_turn.proofs.resting.pass_after.Goals as goal

pub returns-in_err-given-clause-outcome : goal.returns-in_err-given-clause-outcome
returns-in_err-given-clause-outcome g c =
    let p = err_from_is_err_and c.from_residual.result c.from_residual.ensures.1 in
    rw (p.1, p.2) (λ not_memory. passing_stops (g.T.Runnable.runs c.args.whole.now) _ _ c.args.calm_from _ c.index-items-index.result _ c.loop-index.first_calm _ c.loop-index-test.true c.index-items-index.is c.loop-index.invariant.passing (c.in_err-given.ensures.outcome not_memory))

pub loop-index-preserved : goal.loop-index-preserved
loop-index-preserved g c =
    let runs = g.T.Runnable.runs c.args.whole.now in
    let items = c.args.items.now in
    let start = c.args.level.now.grid in
    let calm_from = c.args.calm_from in
    let n = c.loop-index.index in
    let item = c.index-items-index.result in
    let before = c.loop-index.so_far in
    let given = c.in_ok-given.given in
    let o : Outcome Grid = record { level = c.loop-index.level.grid; commands = before.commands; changed = before.changed } in
    let r : Outcome Grid = record { level = c.run.new.level.grid; commands = given.commands; changed = given.changed } in
    let behind = c.loop-index.first_calm in
    let goes_on : n ≡ calm_from → before.changed ≡ false → ⊥ = λ there none. elim c.else-index-calm_from.branch [
      | else-index-calm_from-via-then-index-calm_from+else-not-so_far w ↦ grind (arith, w.if-not-so_far.false, none)
      | else-index-calm_from-via-else-index-calm_from w ↦ w.if-index-calm_from.false there
    ] in
    record {
      passing = rw c.and-so_far.ensures (elim c.if-given.branch [
        | then-given+then-given-2 w ↦ rw w.first_calm-is (passing_changed runs items start calm_from n item o r behind n c.loop-index-test.true c.index-items-index.is c.loop-index.invariant.passing c.in_ok-given.ensures.outcome w.if-given.true (inr (refl, c.in_ok-given.ensures.calm w.if-given-2.true)))
        | then-given+else-given-2 w ↦ rw w.first_calm-is (passing_changed runs items start calm_from n item o r behind (n + 1) c.loop-index-test.true c.index-items-index.is c.loop-index.invariant.passing c.in_ok-given.ensures.outcome w.if-given.true (inl refl))
        | else-given w ↦ rw w.first_calm-is (passing_quiet runs items start calm_from n item o r behind c.loop-index-test.true c.index-items-index.is c.loop-index.invariant.passing goes_on c.in_ok-given.ensures.outcome w.if-given.false (c.in_ok-given.ensures.kept w.if-given.false))
      ]);
      size = same_size_on _ _ _ c.loop-index.invariant.size c.in_ok-given.ensures.size;
    }
