use Rattle.pz_turn.proofs.Common.{◌≡◌, ◌<◌, ◌∷◌, [], List, Ok, Err, map, fold, length, arith, subst, ap, sym, ◌∙◌, err_from_is_err_and, nil_from_length, false, IsRowOf, AreRowsOf, Place, Rewriting, in_rewrite, applied_at, nat_tests, All-head}
use Rattle.pz_turn.proofs.SingleRow.{row_applied, row_ends}
use Rattle.pz_turn.proofs.OneCell.{cell_of, cell_ends}
use Rattle.pz_turn.proofs.applying.apply_row.Goals as goal

pub search-requires : goal.search-requires
search-requires c = record { of_game = All-head (IsRowOf c.args.level.now.grid.layers) c.args.row.now [] (subst (AreRowsOf c.args.level.now.grid.layers) c.requires.only c.requires.of_game.left) }

pub returns-in_err-found-clause-outcome : goal.returns-in_err-found-clause-outcome
returns-in_err-found-clause-outcome c =
    let p = err_from_is_err_and c.from_residual.result c.from_residual.ensures.1 in
    rw (p.1, p.2) (λ not_memory. row_applied c.args.instance.now c.args.level.now.grid c.args.row.now (Err _) c.requires.only (c.in_err-found.ensures not_memory))

pub returns-then-is_empty-clause-outcome : goal.returns-then-is_empty-clause-outcome
returns-then-is_empty-clause-outcome c =
    let none : c.in_ok-found.found ≡ [] = sym c.items.ensures ∙ nil_from_length c.items.result.now (grind (arith, nat_tests)) in
    rw c.nothing.ensures (row_applied c.args.instance.now c.args.level.now.grid c.args.row.now (Ok []) c.requires.only (c.in_ok-found.ensures ∙ ap Ok none))

pub returns-in_default-clause-outcome : goal.returns-in_default-clause-outcome
returns-in_default-clause-outcome c =
    let found = c.in_ok-found.found in
    let some : 0 < length found = grind (arith, nat_tests) in
    let run : List Place → Rewriting = λ ps. fold (applied_at c.args.instance.now) (in_rewrite c.args.level.now.grid false) (map (λ (p : Place). p ∷ []) ps) in
    row_ends c.args.instance.now c.args.level.now.grid c.args.row.now found (in_rewrite c.apply_each-changed.new.level.grid c.apply_each-changed.result) c.requires.only c.in_ok-found.ensures some (c.apply_each-changed.ensures.applied ∙ ap run c.items-in_default.ensures)

pub rewrite_each-changed-requires-clause-left_of : goal.rewrite_each-changed-requires-clause-left_of
rewrite_each-changed-requires-clause-left_of c = cell_of _ _ _ c.in-Some.ensures.left c.requires.of_game.left

pub rewrite_each-changed-requires-clause-right_of : goal.rewrite_each-changed-requires-clause-right_of
rewrite_each-changed-requires-clause-right_of c = cell_of _ _ _ c.in-Some.ensures.right c.requires.of_game.right

pub returns-clause-outcome : goal.returns-clause-outcome
returns-clause-outcome c =
    let some : 0 < length c.in_ok-found.found = grind (arith, nat_tests) in
    (cell_ends c.args.instance.now c.in-Some.left.now c.in-Some.right.now c.in-Some.ensures c.args.level.now.grid c.args.row.now c.in_ok-found.found (in_rewrite c.rewrite_each-changed.new.level.grid c.rewrite_each-changed.result) c.requires.only c.in_ok-found.ensures some (cc)).0

pub returns-clause-calm : goal.returns-clause-calm
returns-clause-calm c = λ known.
    let some : 0 < length c.in_ok-found.found = grind (arith, nat_tests) in
    (cell_ends c.args.instance.now c.in-Some.left.now c.in-Some.right.now c.in-Some.ensures c.args.level.now.grid c.args.row.now c.in_ok-found.found (in_rewrite c.rewrite_each-changed.new.level.grid c.rewrite_each-changed.result) c.requires.only c.in_ok-found.ensures some (cc)).1 c.width.ensures.lawful
