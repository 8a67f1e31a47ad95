use Rattle.std.proofs.Common.{ℕ, ◌+◌, ◌*◌, refl, ◌∙◌, ap, sym, length, arith, ◌≡◌, []}
use Rattle.pz_source.specs.Levels.{row_of, rows_of, glyph_of}
use Rattle.pz_base.proofs.EachLemmas.{behind, joined_none}
use Rattle.pz_source.proofs.LevelLemmas.{row-next}
use Rattle.pz_source.proofs.levels.rows.Goals as goal

more_cells : (width index before after : ℕ) → after ≡ before + width → before ≡ width * index → after ≡ width * (index + 1)
more_cells width index before after more is = grind arith

pub loop-line-init : goal.loop-line-init
unfolding rows_of
loop-line-init c =
    let lines = c.args.lines.now in
    let row = row_of (glyph_of c.args.glyphs.now.names c.args.glyphs.now.values) c.args.width in
    let none : c.reserve.new.self.items ≡ [] = c.reserve.ensures.items ∙ c.new-cells.ensures.items in
    record {
      read = ap (λ done. behind (λ r. r) row done lines) none ∙ joined_none row lines;
      count = omega (arith, ap length none);
      same = refl;
    }

pub loop-line-preserved : goal.loop-line-preserved
loop-line-preserved c =
    let i = c.loop-line.invariant in
    let glyph = glyph_of c.args.glyphs.now.names c.args.glyphs.now.values in
    let got = sym (rw (c.in-Some.is, i.same, c.cut_to.ensures, c.items.ensures) at c.in_ok-row.ensures.numbers) in
    let more = rw c.as_slice.ensures.value at c.in_ok-add_row.ensures.cells in
    record {
      read = row-next glyph c.args.width c.args.lines.now c.loop-line.line-index c.line-item.result c.loop-line.cells.items c.add_row.new.cells.items c.in-Some.row.items c.loop-line-test.true c.line-item.is got more ∙ i.read;
      count = more_cells c.args.width c.loop-line.line-index (length c.loop-line.cells.items) (length c.add_row.new.cells.items) c.in_ok-add_row.ensures.count i.count;
      same = c.numbers_of.ensures.same ∙ i.same;
    }
