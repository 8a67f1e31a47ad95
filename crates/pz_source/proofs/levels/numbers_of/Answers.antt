use Rattle.std.proofs.Common.{refl, ◌∙◌, ap, sym}
use Rattle.pz_source.specs.Levels.{glyph_of}
use Rattle.pz_base.proofs.EachLemmas.{some_behind, some_behind_none}
use Rattle.pz_source.proofs.LevelLemmas.{number-next}
use Rattle.pz_source.proofs.levels.numbers_of.Goals as goal

pub loop-character-init : goal.loop-character-init
loop-character-init c =
    let row = c.args.row.now in
    let glyph = glyph_of c.args.glyphs.now.names c.args.glyphs.now.values in
    record {
      numbers = ap (λ done. some_behind glyph done row) (c.reserve.ensures.items ∙ c.new-found.ensures.items) ∙ some_behind_none glyph row;
      same = refl;
    }

pub loop-character-preserved : goal.loop-character-preserved
loop-character-preserved c =
    let i = c.loop-character.invariant in
    let glyph = glyph_of c.args.glyphs.now.names c.args.glyphs.now.values in
    let got = sym (rw (c.in-Some.is, i.same) at c.in_ok-number.ensures.number) in
    record {
      numbers = number-next glyph c.args.row.now c.loop-character.character-index c.character-item.result c.loop-character.found.items c.push.new.self.items c.in-Some.number c.loop-character-test.true c.character-item.is got c.in_ok-push.ensures.items ∙ i.numbers;
      same = c.number_of.ensures.same ∙ i.same;
    }
