use Rattle.pz_turn.proofs.Common.{Err, ◌∷◌, ◌++◌, ◌+◌, drop, places_of_rows, ◌≡◌, ◌∙◌, [], Ok, arith, ap, sym, err_from_is_err_and, nil_from_length, nat_tests}
use Rattle.pz_turn.proofs.Skipping.{following, following_one, taken_from, applied_none}
use Rattle.pz_turn.proofs.Combining.{combinations-last}
use Rattle.pz_turn.proofs.applying.take_places.Goals as goal

pub returns-then-is_empty : goal.returns-then-is_empty
returns-then-is_empty c =
    let none : c.in_ok-found.found ≡ [] = sym c.items.ensures ∙ nil_from_length c.items.result.now (grind (arith, nat_tests)) in
    let ended = taken_from c.args.level.now.grid c.args.instance.now.scan c.items-row-items.result.now c.loop-row.row-index c.row-item.result (Ok []) c.loop-row-test.true c.row-item.is (c.in_ok-found.ensures ∙ ap Ok none) in
    applied_none c.args.instance.now c.args.level.now.grid (record { lists = c.loop-row.lists.items ++ [] ∷ []; takes = sym c.loop-row.invariant ∙ ap (following c.loop-row.lists.items) ended; none = combinations-last c.loop-row.lists.items [] })

pub loop-row-preserved : goal.loop-row-preserved
loop-row-preserved c =
    let rest = places_of_rows c.args.level.now.grid c.args.instance.now.scan (drop (c.loop-row.row-index + 1) c.items-row-items.result.now) in
    grind (arith, following_one c.loop-row.lists.items c.in_ok-found.found rest, taken_from c.args.level.now.grid c.args.instance.now.scan c.items-row-items.result.now c.loop-row.row-index c.row-item.result (Ok c.in_ok-found.found))

pub returns-in_err-found : goal.returns-in_err-found
returns-in_err-found c =
    let p = err_from_is_err_and c.from_residual.result c.from_residual.ensures.1 in
    rw (p.1, p.2) (λ not_memory. sym c.loop-row.invariant ∙ ap (following c.loop-row.lists.items) (taken_from _ _ _ _ c.row-item.result (Err _) c.loop-row-test.true c.row-item.is (c.in_err-found.ensures not_memory)))
