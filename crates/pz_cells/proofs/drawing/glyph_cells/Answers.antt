use Rattle.std.proofs.lemmas.List.{take_all}
use Rattle.pz_cells.proofs.Common.{List, ℕ, map, ap, ◌∙◌, arith, glyph_cell}
use Rattle.pz_cells.proofs.DrawLemmas.{glyphs_more}
use Rattle.pz_cells.proofs.ListLemmas.{small_cell}
use Rattle.pz_cells.proofs.drawing.glyph_cells.Goals as goal

pub loop-number-preserved : goal.loop-number-preserved
loop-number-preserved g c =
    glyphs_more c.args.layers.now (glyph_cell c.args.game.now) c.args.numbers.now c.loop-number.number-index 0 c.loop-number.cells.items c.push.new.self.items c.glyph_cell.result c.loop-number-test.true c.loop-number.invariant c.glyph_cell.ensures.sound c.glyph_cell.ensures.cell c.in_ok-push.ensures.items

pub glyph_cell-requires : goal.glyph_cell-requires
glyph_cell-requires g c = (omega arith, (small_cell _ c.depth.ensures.law.short, (c.requires.of_game, c.requires.numbers c.loop-number.number-index 0 c.loop-number-test.true)))

pub returns-clause-cells : goal.returns-clause-cells
returns-clause-cells g c = c.loop-number.invariant.cells_are ∙ ap (λ (all : List ℕ). map (glyph_cell c.args.game.now) all) (take_all c.loop-number.number-index c.args.numbers.now c.loop-number-test.false)
