use Rattle.pz_turn.proofs.Common.{◌≡◌, None, arith, drop_more}
use Rattle.pz_turn.proofs.Skipping.{none_first, none_after, applied_none}
use Rattle.pz_turn.proofs.SingleRow.{applied_without_effect}
use Rattle.pz_turn.proofs.applying.is_left_out.Goals as goal

pub returns-then-has_no_effect : goal.returns-then-has_no_effect
returns-then-has_no_effect c _ = applied_without_effect c.args.instance.now c.args.level.now.grid c.width.ensures.lawful (c.has_no_effect.ensures c.if-has_no_effect.true)

pub returns-then-not-may_have_place : goal.returns-then-not-may_have_place
returns-then-not-may_have_place c _ =
    let row = c.row-item.result in
    applied_none c.args.instance.now c.args.level.now.grid (c.loop-row.invariant (rw (drop_more c.items-row-items.result.now c.loop-row.row-index row (omega arith), ← c.row-item.is) (none_first _ _ row _ (c.may_have_place.ensures c.if-not-may_have_place.true _))))

pub loop-row-preserved : goal.loop-row-preserved
loop-row-preserved c rest =
    let row = c.row-item.result in
    let gapless : row.gap_at ≡ None = grind arith in
    c.loop-row.invariant (rw (drop_more c.items-row-items.result.now c.loop-row.row-index row (omega arith), ← c.row-item.is) (none_after c.args.level.now.grid _ row _ c.width.ensures.lawful gapless rest))
