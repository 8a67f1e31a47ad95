use Rattle.std.proofs.Common.{◌≡◌, drop}
use Rattle.pz_source.specs.Levels.{glyphs_of, glyph_of}
use Rattle.pz_base.proofs.EachLemmas.{some_behind}
use Rattle.pz_source.proofs.levels.numbers_of.Given as goal

abbrev pub invariant-loop-character : goal.invariant-loop-character
invariant-loop-character l =
    let glyph = glyph_of l.fn.glyphs.names l.fn.glyphs.values in
    record {
      numbers : some_behind glyph l.found.items (drop l.character-index l.row) ≡ glyphs_of glyph l.row;
      same : l.glyphs ≡ l.fn.glyphs;
    }
