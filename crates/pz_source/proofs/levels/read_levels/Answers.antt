use Rattle.std.proofs.Common.{◌≡◌, ◌<◌, [], List, Bor, length, map, get_or, sym, ◌∙◌, ap, subst, arith}
use Rattle.std.proofs.lemmas.List.{length-map, get_or-map}
use Rattle.pz_source.specs.Levels.{entries_of, entry_of, glyph_of}
use Rattle.pz_text.specs.declared.line.Line.{Line}
use Rattle.pz_source.proofs.LevelLemmas.{entry-drawn, entry-next}
use Rattle.pz_base.proofs.EachLemmas.{behind_at, behind_at_none}
use Rattle.pz_source.proofs.levels.read_levels.Goals as goal

pub read_entry-requires : goal.read_entry-requires
read_entry-requires c =
    let lines = c.args.lines.now in
    let items = c.in_ok-blocks.blocks.items in
    let i = c.loop-block.block-index in
    let x = c.block-item.result in
    let all : map (λ (entry : Bor (List Line)). entry.now) items ≡ entries_of [] lines = c.in_ok-blocks.ensures in
    let now = λ (entry : Bor (List Line)). entry.now in
    let same : c.deref-block-items.result.now ≡ items = c.deref-block-items.ensures.value in
    let below : i < length items = subst (λ (es : List (Bor (List Line))). i < length es) same c.loop-block-test.true in
    let is : x ≡ get_or items i x = c.block-item.is ∙ ap (λ (es : List (Bor (List Line))). get_or es i x) same in
    let mapped : get_or (map now items) i x.now ≡ (get_or items i x).now = get_or-map now items i x x.now below in
    let long : length (map now items) ≡ length items = length-map items now in
    let inside : i < length (map now items) = omega arith in
    entry-drawn lines i x.now (subst (λ (es : List (List Line)). i < length es) all inside)
    (ap now is ∙ (sym mapped ∙ ap (λ (es : List (List Line)). get_or es i x.now) all))

pub loop-block-init : goal.loop-block-init
loop-block-init c =
    let entry = entry_of (glyph_of c.args.names.now c.args.values.now) in
    let blocks = λ (items : List (Bor (List Line))). behind_at entry [] (map (λ (block : Bor (List Line)). block.now) items) in
    let all = ap (behind_at entry []) c.in_ok-blocks.ensures in
    record {
      read = rw c.new-read.ensures.items (ap blocks c.deref-block-items.ensures.value ∙ (all ∙ behind_at_none entry (entries_of [] c.args.lines.now)));
      names = ap (λ glyphs. glyphs.names) c.new-glyphs.ensures;
      values = ap (λ glyphs. glyphs.values) c.new-glyphs.ensures;
    }

pub loop-block-preserved : goal.loop-block-preserved
loop-block-preserved c =
    let i = c.loop-block.invariant in
    let entry = entry_of (glyph_of c.args.names.now c.args.values.now) in
    let got = sym (rw (c.in-Ok.is, i.names, i.values, c.len.ensures ∙ c.loop-block.read.ok.0) at c.in_ok-found.ensures.read) in
    record {
      read = entry-next entry c.deref-block-items.result.now c.loop-block.block-index c.block-item.result c.loop-block.read.items c.push.new.self.items c.in-Ok.found c.loop-block-test.true c.block-item.is got c.in_ok-push.ensures.items ∙ i.read;
      names = ap (λ glyphs. glyphs.names) c.read_entry.ensures.same ∙ i.names;
      values = ap (λ glyphs. glyphs.values) c.read_entry.ensures.same ∙ i.values;
    }
