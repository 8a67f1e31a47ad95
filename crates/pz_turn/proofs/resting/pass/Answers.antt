use Rattle.pz_turn.proofs.Common.{◌≡◌, ℕ, ◌+◌, ◌++◌, ◌∷◌, [], Ok, take, get_or, arith, ap, sym, ◌∙◌, take_more, err_from_is_err_and, same_size_on, Grid, Outcome, pass_of}
use Rattle.pz_turn.proofs.Passes.{calm_alone, calm_known, fold_stops, fold_more}
use Rattle.pz_turn.proofs.resting.pass.Goals as goal

pub returns-in_err-given-clause-outcome : goal.returns-in_err-given-clause-outcome
returns-in_err-given-clause-outcome g c =
    let p = err_from_is_err_and c.from_residual.result c.from_residual.ensures.1 in
    let o : Outcome Grid = record { level = c.loop-item.level.grid; commands = c.loop-item.so_far.commands; changed = c.loop-item.so_far.changed } in
    rw (p.1, p.2) (λ not_memory. fold_stops (g.T.Runnable.runs c.args.whole.now) o c.args.items.now c.loop-item.item-index c.item-item.result _ _ c.loop-item.invariant.whole (omega arith) c.item-item.is (c.in_err-given.ensures.outcome not_memory))

pub loop-item-preserved : goal.loop-item-preserved
loop-item-preserved g c =
    let runs = g.T.Runnable.runs c.args.whole.now in
    let items = c.args.items.now in
    let n = c.loop-item.item-index in
    let item = c.item-item.result in
    let before = c.loop-item.so_far in
    let given = c.in_ok-given.given in
    let after = c.run.new.level.grid in
    let o : Outcome Grid = record { level = c.loop-item.level.grid; commands = before.commands; changed = before.changed } in
    let r : Outcome Grid = record { level = after; commands = given.commands; changed = given.changed } in
    let only : n ≡ 0 → item ∷ [] ≡ take (n + 1) items = λ first. ap (λ x. x ∷ []) c.item-item.is ∙ ap (λ (k : ℕ). take k items ++ get_or items n item ∷ []) (sym first) ∙ sym (take_more items n item (omega arith)) in
    record {
      whole = rw c.and-so_far.ensures (fold_more runs o (Ok r) items n item (omega arith) c.item-item.is c.in_ok-given.ensures.outcome ∙ c.loop-item.invariant.whole);
      calm = λ calm. (
        omega arith,
        λ one. rw (c.and-so_far.ensures, ← only (omega (arith, one))) (calm_known (pass_of runs) before.commands given.commands after (item ∷ []) (calm_alone runs given.commands after item (c.in_ok-given.ensures.calm calm))),
      );
      size = same_size_on _ _ _ c.loop-item.invariant.size c.in_ok-given.ensures.size;
    }
