use Rattle.std.proofs.Common.{ℕ, List, [], ◌∷◌, ◌++◌, codes, decimal, ap, ap₂, ◌∙◌}
use Rattle.json.specs.Print.{quoted}
unfoldable use Rattle.pz_level_text.specs.LevelText.{text_of_level}
use Rattle.pz_stages.specs.Parts.{block_text, bool_text, json_list, command_names, headings_of, lines_text}
unfoldable use Rattle.pz_stages.specs.Parts.{part_name}
unfoldable use Rattle.pz_stages.specs.Stages.{stage_line}
use Rattle.pz_stages.proofs.Lines.{in_parts}
use Rattle.pz_stages.proofs.stage_line.put_stage.Goals as goal

pub returns-clause-line : goal.returns-clause-line
unfolding stage_line
returns-clause-line c =
    let lines = c.args.lines.now.items in
    let place = c.args.place in
    let state = place.board.now in
    let stage = c.args.stage in
    let level = c.args.level.now.grid in
    let text = text_of_level state.game state.order level in
    let one = c.in_ok-extend_from_slice.ensures.items in
    let two = c.in_ok-put_block.ensures ∙ ap (λ (l : List ℕ). l ++ block_text stage.part) one in
    let three = c.in_ok-put_json.ensures ∙ ap₂ (λ (l b : List ℕ). l ++ (codes "\"changed\":" ++ b)) two c.bool_text.ensures in
    let names = c.deref.ensures.value ∙ c.in_ok-commands_of.ensures in
    let four = c.in_ok-put_list.ensures ∙ ap₂ (λ (l t : List ℕ). l ++ (codes ",\"commands\":" ++ json_list t)) three names in
    let headings = c.deref-2.ensures.value ∙ c.in_ok-headings_of.ensures ∙ ap (λ game. headings_of game.objects level) c.game-game.ensures in
    let five = c.in_ok-put_list-2.ensures ∙ ap₂ (λ (l t : List ℕ). l ++ (codes ",\"headings\":" ++ json_list t)) four headings in
    let six = c.in_ok-put_number.ensures ∙ ap (λ (l : List ℕ). l ++ (codes ",\"input\":" ++ decimal place.number)) five in
    let seven = c.in_ok-put_level.ensures.text ∙ (λ i. six i ++ (codes ",\"level\":" ++ quoted (text_of_level (c.requires.0 i) (c.requires.1 i) level))) in
    let eight = c.in_ok-put_source.ensures ∙ (λ i. seven i ++ lines_text (c.game-game.ensures i).rules (c.program.ensures i) stage.part) in
    let nine = c.in_ok-put_text.ensures ∙ ap₂ (λ (l n : List ℕ). l ++ (codes ",\"stage\":" ++ quoted n)) eight c.part_name.ensures in
    let ten = c.in_ok-put_number-2.ensures ∙ ap (λ (l : List ℕ). l ++ (codes ",\"tick\":" ++ decimal place.tick)) nine in
    c.in_ok-extend_from_slice-2.ensures.items ∙ ap (λ (l : List ℕ). l ++ codes "}\n") ten
    ∙ in_parts lines (codes "{"
    ∷ block_text stage.part
    ∷ (codes "\"changed\":" ++ bool_text stage.changed)
    ∷ (codes ",\"commands\":" ++ json_list (command_names stage.commands))
    ∷ (codes ",\"headings\":" ++ json_list (headings_of state.game.objects level))
    ∷ (codes ",\"input\":" ++ decimal place.number)
    ∷ (codes ",\"level\":" ++ quoted text)
    ∷ lines_text state.game.rules state.program stage.part
    ∷ (codes ",\"stage\":" ++ quoted (part_name stage.part))
    ∷ (codes ",\"tick\":" ++ decimal place.tick)
    ∷ codes "}\n" ∷ [])
