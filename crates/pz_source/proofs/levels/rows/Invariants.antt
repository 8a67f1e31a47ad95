use Rattle.std.proofs.Common.{◌≡◌, ◌*◌, drop, length}
use Rattle.pz_source.specs.Levels.{row_of, rows_of, glyph_of}
use Rattle.pz_base.proofs.EachLemmas.{behind}
use Rattle.pz_source.proofs.levels.rows.Given as goal

abbrev pub invariant-loop-line : goal.invariant-loop-line
invariant-loop-line l =
    let glyph = glyph_of l.fn.glyphs.names l.fn.glyphs.values in
    record {
      read : behind (λ row. row) (row_of glyph l.width) l.cells.items (drop l.line-index l.lines) ≡ rows_of glyph l.width l.lines;
      count : length l.cells.items ≡ l.width * l.line-index;
      same : l.glyphs ≡ l.fn.glyphs;
    }
