use Rattle.std.proofs.Common.{◌≡◌, ◌*◌, ◌<◌, ◌≤◌, ◌^◌, length, ap, ◌∙◌, arith, string_bytes}
use Rattle.pz_entries.specs.Reading.{reading}
use Rattle.pz_level_text.proofs.LevelReads.{level_reads}
use Rattle.pz_level_text.proofs.Ordered.{length-texts_in}
use Rattle.pz_level_text.specs.Labels.{WriterView, texts_in}
use Rattle.pz_level_text.specs.LevelText.{text_of_level}
use Rattle.pz_session.proofs.level_texts.level_text.Goals as goal

pub returns-clause-reads_back : goal.returns-clause-reads_back
unfolding text_of_level
returns-clause-reads_back c no_comma =
    let game = c.args.game.now in
    let grid = c.args.level.now.grid in
    let is : string_bytes c.in_ok-text.text ≡ text_of_level game c.args.order grid =
    c.in_ok-text.ensures.text ∙ ap (λ (w : WriterView). text_of_level w.table.game w.order c.bare.result.now.grid) c.new-writer.ensures ∙ ap (text_of_level game c.args.order) c.bare.ensures in
    let small : grid.width * grid.height ≤ 16384 = c.height-height.ensures.lawful.size.small in
    let few : length (texts_in game c.args.order grid) < 2 ^ 64 = rw (length-texts_in game c.args.order grid) (omega arith) in
    ap reading is ∙ level_reads game c.args.order grid grid.width c.objects-objects.ensures.game no_comma few
