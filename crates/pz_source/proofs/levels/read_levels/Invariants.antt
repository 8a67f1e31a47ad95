use Rattle.std.proofs.Common.{◌≡◌, [], map, drop}
use Rattle.pz_source.specs.Levels.{entry_of, read_entries, entries_of, glyph_of}
use Rattle.pz_base.proofs.EachLemmas.{behind_at}
use Rattle.pz_source.proofs.levels.read_levels.Given as goal

abbrev pub invariant-loop-block : goal.invariant-loop-block
invariant-loop-block l =
    let glyph = glyph_of l.names l.values in
    record {
      read : behind_at (entry_of glyph) l.read.items (map (λ block. block.now) (drop l.block-index l.block-items)) ≡ read_entries glyph (entries_of [] l.lines);
      names : l.glyphs.names ≡ l.names;
      values : l.glyphs.values ≡ l.values;
    }
