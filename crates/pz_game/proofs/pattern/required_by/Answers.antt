use Rattle.std.proofs.Common.{◌≡◌, ◌||◌, get_or, take, ap, sym, subst, ◌∙◌}
use Rattle.std.specs.List.{All, list_any}
use Rattle.std.proofs.lemmas.List.Folds.{list_any_more}
use Rattle.pz_sets.specs.Sets.{member}
use Rattle.pz_game.specs.Headings.{flag, heads}
use Rattle.pz_game.specs.Masks.{IsLow, asks_toward}
use Rattle.pz_game.proofs.pattern.required_by.Goals as goal

pub loop-cell-preserved : goal.loop-cell-preserved
loop-cell-preserved c low =
    let cells = c.args.cells.now in
    let i = c.loop-cell.cell-index in
    let cell = c.cell-item.result in
    let is : cell ≡ get_or cells i cell = c.cell-item.is in
    let masks = c.masks.ensures (subst (All IsLow) (sym is) (low i cell c.loop-cell-test.true)) in
    let before = c.loop-cell.invariant low in
    record {
      asked = λ layer dir. c.union-required.ensures (flag layer dir)
          ∙ ap (λ b. b || heads c.masks.result.now.required layer dir) (before.asked layer dir)
          ∙ ap (λ b. list_any (asks_toward layer dir) (take i cells) || b) (masks.required layer dir ∙ ap (asks_toward layer dir) is)
          ∙ sym (list_any_more (asks_toward layer dir) cells i cell c.loop-cell-test.true);
      proper = λ number far. c.union-required.ensures number ∙ ap (λ b. b || member c.masks.result.now.required number) (before.proper number far) ∙ masks.proper_required number far;
    }
