use Rattle.pz_turn.proofs.Common.{◌≡◌, ℕ, ◌*◌, length, take, min, arith, combinations, common_steps}
use Rattle.pz_turn.proofs.Combining.{combinations-last, length-ending}
use Rattle.pz_turn.proofs.applying.combination_count.Goals as goal

-- a product, counted up to a limit
capped : (p n count product result : ℕ) → count ≡ min p 1048577 → product ≡ min (count * n) 18446744073709551615 → result ≡ min product 1048577 → result ≡ min (p * n) 1048577
capped p n count product result a b d = grind arith

pub loop-list-preserved : goal.loop-list-preserved
loop-list-preserved c =
    let before = take c.loop-list.list-index c.args.lists.now in
    let list = c.list-item.result in
    grind (arith, common_steps, capped (length (combinations before)) (length list) c.loop-list.count c.saturating_mul.result c.min-count.result, combinations-last before list, length-ending before list)
