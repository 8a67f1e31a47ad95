use Rattle.pz_cells.proofs.Common.{List, ℕ, arith, subst, IsTrue, ◌↔◌, IsWithin, AreApart}
use Rattle.pz_cells.proofs.HoldLemmas.{holds_by_sets, both_decide, first_decides, masks_fit}
use Rattle.pz_cells.proofs.cell.Cell.holds.Goals as goal

pub meets-requires : goal.meets-requires
meets-requires g c =
    let fit = masks_fit g.row.N c.args.layers.now c.args.pattern.now c.masks-masks.result.now c.movement_words-movement.ensures.law c.requires.of_game c.masks-masks.ensures in
    record { wanted = λ number here. omega (arith, fit.present number here); unwanted = λ number here. omega (arith, fit.absent number here) }

pub meets-requires-then-meets : goal.meets-requires-then-meets
meets-requires-then-meets g c =
    let fit = masks_fit g.row.N c.args.layers.now c.args.pattern.now c.masks-masks.result.now c.movement_words-movement.ensures.law c.requires.of_game c.masks-masks.ensures in
    let long = c.movement_words-movement.ensures.long in
    record { wanted = λ number here. omega (arith, long, fit.required number here); unwanted = λ number here. omega (arith, long, fit.forbidden number here) }

pub returns-then-meets : goal.returns-then-meets
returns-then-meets g c =
    let fit = masks_fit g.row.N c.args.layers.now c.args.pattern.now c.masks-masks.result.now c.movement_words-movement.ensures.law c.requires.of_game c.masks-masks.ensures in
    let moves = subst (λ (ws : List ℕ). IsTrue c.meets-then-meets.result ↔ (IsWithin c.masks-masks.result.now.required ws × AreApart c.masks-masks.result.now.forbidden ws)) c.movement_words-movement.ensures.words c.meets-then-meets.ensures in
    both_decide c.meets.result c.meets-then-meets.result _ c.meets.ensures moves (holds_by_sets _ _ _ _ _ c.movement_words-movement.ensures.law.layered c.requires.sound c.requires.of_game _ fit.are) c.if-meets.true

pub returns-else-meets : goal.returns-else-meets
returns-else-meets g c =
    let fit = masks_fit g.row.N c.args.layers.now c.args.pattern.now c.masks-masks.result.now c.movement_words-movement.ensures.law c.requires.of_game c.masks-masks.ensures in
    first_decides c.meets.result _ c.meets.ensures (holds_by_sets _ _ _ _ _ c.movement_words-movement.ensures.law.layered c.requires.sound c.requires.of_game _ fit.are) c.if-meets.false
