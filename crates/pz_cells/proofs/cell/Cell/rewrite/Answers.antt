use Rattle.pz_cells.proofs.Common.{◌≡◌, ℕ, ◌&&◌, List, ap, sym, ◌∙◌, arith, AreMasksOf, member, IsProper}
use Rattle.pz_cells.proofs.HoldLemmas.{masks_fit}
use Rattle.pz_cells.proofs.RewriteLemmas.{AreRewritten, is_removed, leaves, lawful_rewritten, cell_rewritten, placed_within, mid_proper, changed_by}
use Rattle.pz_cells.proofs.cell.Cell.rewrite.Given.{Over}
use Rattle.pz_cells.proofs.cell.Cell.rewrite.Goals.{After-self-3-1}
use Rattle.pz_cells.proofs.cell.Cell.rewrite.Goals as goal

pub replace-moved-requires : goal.replace-moved-requires
replace-moved-requires g c number here =
    let fit = masks_fit g.row.N c.args.layers.now c.args.right.now c.masks-is.result.now c.displaced_by-displaced.ensures.law c.requires.right_of c.masks-is.ensures in
    omega (arith, fit.headed number (ap (λ (ws : List ℕ). member ws number) (sym c.words-4.ensures.words) ∙ here))

pub replace-replaced-requires : goal.replace-replaced-requires
replace-replaced-requires g c object here =
    let fit = masks_fit g.row.N c.args.layers.now c.args.right.now c.masks-is.result.now c.displaced_by-displaced.ensures.law c.requires.right_of c.masks-is.ensures in
    omega (arith, placed_within c.args.layers.now.layers c.args.right.now c.masks-is.result.now c.requires.right_of fit.are object (ap (λ (ws : List ℕ). member ws object) (sym c.words-6.ensures.words) ∙ here), c.displaced_by-displaced.ensures.law.room)

pub end_leaving-requires : goal.end_leaving-requires
end_leaving-requires g c = (omega arith, (omega (arith, c.displaced_by-displaced.ensures.law.short, c.replace.auto.words), λ object here. grind (arith, here, c.replace.ensures.members object, c.words-2.ensures.words, c.empty.ensures object, c.requires.sound.of_game object)))

rewritten : (g : Over) (c : After-self-3-1 g) → AreRewritten c.args.layers.now.layers c.args.left.now c.args.right.now c.masks-was.result.now c.masks-is.result.now c.args.self.now.objects c.args.self.now.movement c.replace-replaced.new.words c.replace-moved.new.words c.end_leaving.new.movement
rewritten g c = record {
  are = c.requires.right_of;
  ml = left;
  mr = right;
  lawful = c.requires.sound;
  is_new = λ o low. grind (arith, c.replace-replaced.ensures.members o, c.words-5.ensures.words, c.words-6.ensures.words, c.union-gone.ensures o, c.displaced_by-displaced.ensures.objects o low, removed o);
  of_game = λ o here. grind (arith, c.replace-replaced.ensures.members o, c.words-6.ensures.words, here, c.requires.sound.of_game o, placed_within c.args.layers.now.layers c.args.right.now c.masks-is.result.now c.requires.right_of right o);
  is_mid = λ n. grind (arith, c.replace-moved.ensures.members n, c.words-3.ensures.words, c.words-4.ensures.words, c.union-ending.ensures n, c.common.ensures n);
  ended = λ o dir e. c.end_leaving.ensures.ended o dir (leaving o ∙ e);
  others = λ layer dir none. c.end_leaving.ensures.others layer dir (λ o e. none o (sym (leaving o) ∙ e));
} where
  left : AreMasksOf c.args.left.now c.masks-was.result.now
  left = (masks_fit g.row.N c.args.layers.now c.args.left.now c.masks-was.result.now c.displaced_by-displaced.ensures.law c.requires.left_of c.masks-was.ensures).are

  right : AreMasksOf c.args.right.now c.masks-is.result.now
  right = (masks_fit g.row.N c.args.layers.now c.args.right.now c.masks-is.result.now c.displaced_by-displaced.ensures.law c.requires.right_of c.masks-is.ensures).are

  removed : (object : ℕ) → member c.union-removed.result object ≡ is_removed c.args.left.now c.args.right.now object
  removed object = grind (arith, c.union-removed.ensures object, left.present object, right.absent object)

  leaving : (object : ℕ) → (member c.replace.new.words object && member c.union-removed.result object) ≡ leaves c.args.layers.now.layers c.args.self.now.objects c.args.left.now c.args.right.now object
  leaving object = grind (arith, c.replace.ensures.members object, c.words.ensures.words, c.words-2.ensures.words, c.empty.ensures object, c.displaced_by-displaced.ensures.objects object, c.requires.sound.of_game object, removed object)

proper : (g : Over) (c : After-self-3-1 g) → IsProper c.end_leaving.new.movement
proper g c = c.end_leaving.ensures.proper (mid_proper _ _ _ _ _ _ _ _ _ _ (rewritten g c))

pub returns-clause-sound : goal.returns-clause-sound
returns-clause-sound g c = lawful_rewritten _ _ _ _ _ _ _ _ _ _ (rewritten g c) (proper g c)

pub returns-clause-cell : goal.returns-clause-cell
returns-clause-cell g c = cell_rewritten _ _ _ _ _ _ _ _ _ _ (rewritten g c) c.args.layers.now.depth c.displaced_by-displaced.ensures.law.layered

pub returns-clause-changed : goal.returns-clause-changed
returns-clause-changed g c = changed_by _ _ _ _ _ _ _ _ _ _ (rewritten g c) c.args.layers.now.depth c.replace-moved.result c.replace-replaced.result c.displaced_by-displaced.ensures.law.layered (proper g c) c.replace-moved.ensures.changed c.replace-replaced.ensures.changed
