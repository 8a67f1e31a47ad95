use Rattle.pz_turn.proofs.Common.{application_of, applied_with, nat_tests, ◌≡◌, [], length, drop, arith, ap, err_from_is_err_and, drop_all, in_rewrite, combinations}
use Rattle.pz_turn.proofs.SingleRow.{applied_ends}
use Rattle.pz_turn.proofs.applying.apply_rows.Goals as goal

pub returns-in_err-found-clause-outcome : goal.returns-in_err-found-clause-outcome
unfolding application_of
returns-in_err-found-clause-outcome c =
    let p = err_from_is_err_and c.from_residual.result c.from_residual.ensures.1 in
    rw (p.1, p.2) (λ not_memory. ap (applied_with c.args.instance.now c.args.level.now.grid) (c.in_err-found.ensures not_memory))

pub returns-then-combination_count-gt-COMBINATION_LIMIT-clause-outcome : goal.returns-then-combination_count-gt-COMBINATION_LIMIT-clause-outcome
unfolding application_of
returns-then-combination_count-gt-COMBINATION_LIMIT-clause-outcome c = λ _. grind (arith, nat_tests, rw c.in-Some.is at c.in_ok-found.ensures, ap length (ap combinations c.deref.ensures.value))

pub returns-clause-outcome : goal.returns-clause-outcome
returns-clause-outcome c =
    let lists = c.in-Some.lists.items in
    let places = c.deref_mut.result.now in
    let none : drop (length lists) places ≡ [] = drop_all (length lists) places (omega (arith, ap length c.deref_mut.ensures.value, c.in_ok-chosen.ensures, c.len.ensures)) in
    applied_ends c.args.instance.now c.args.level.now.grid lists (drop (length lists) places) (in_rewrite c.apply_all-changed.new.level.grid c.apply_all-changed.result) c.given_commands-commands.result (rw c.in-Some.is at c.in_ok-found.ensures) (omega (arith, ap length (ap combinations c.deref.ensures.value)))
    none (rw c.deref-2.ensures.value at c.apply_all-changed.ensures.applied) (rw c.deref-3.ensures.value at c.given_commands-commands.ensures)
