use Rattle.std.proofs.Common.{ℕ, List, [], ◌∷◌, ◌++◌, codes, decimal, flat_map, ap, ap₂, ◌∙◌}
use Rattle.json.specs.Print.{quoted}
unfoldable use Rattle.pz_level_text.specs.LevelText.{text_of_level}
use Rattle.pz_stages.specs.Parts.{block_text, json_list, headings_of}
unfoldable use Rattle.pz_stages.specs.Parts.{dir_name, part_name}
use Rattle.pz_stages.specs.Firings.{places_text}
unfoldable use Rattle.pz_stages.specs.Firings.{firing_line}
use Rattle.pz_stages.proofs.Lines.{in_parts}
use Rattle.pz_stages.proofs.firing_line.put_firing.Goals as goal

pub returns-clause-line : goal.returns-clause-line
unfolding firing_line
returns-clause-line c =
    let lines = c.args.lines.now.items in
    let place = c.args.place in
    let state = place.board.now in
    let firing = c.args.firing.now in
    let moment = firing.moment in
    let level = c.args.level.now.grid in
    let text = text_of_level state.game state.order level in
    let one = c.in_ok-extend_from_slice.ensures.items in
    let two = c.in_ok-put_block.ensures ∙ ap (λ (l : List ℕ). l ++ block_text c.args.part) one in
    let three = c.in_ok-put_text.ensures ∙ ap₂ (λ (l n : List ℕ). l ++ (codes "\"direction\":" ++ quoted n)) two c.dir_name.ensures in
    let four = c.in_ok-put_number.ensures ∙ ap (λ (l : List ℕ). l ++ (codes ",\"group\":" ++ decimal moment.group)) three in
    let headings = c.deref.ensures.value ∙ c.in_ok-headings_of.ensures ∙ ap (λ game. headings_of game.objects level) c.game.ensures in
    let five = c.in_ok-put_list.ensures ∙ ap₂ (λ (l t : List ℕ). l ++ (codes ",\"headings\":" ++ json_list t)) four headings in
    let six = c.in_ok-put_number-2.ensures ∙ ap (λ (l : List ℕ). l ++ (codes ",\"input\":" ++ decimal place.number)) five in
    let seven = c.in_ok-put_number-3.ensures ∙ ap (λ (l : List ℕ). l ++ (codes ",\"instance\":" ++ decimal moment.instance)) six in
    let eight = c.in_ok-put_level.ensures.text ∙ (λ i. seven i ++ (codes ",\"level\":" ++ quoted (text_of_level (c.requires.0 i) (c.requires.1 i) level))) in
    let nine = c.in_ok-put_number-4.ensures ∙ ap (λ (l : List ℕ). l ++ (codes ",\"line\":" ++ decimal firing.line)) eight in
    let ten = c.in_ok-put_number-5.ensures ∙ ap (λ (l : List ℕ). l ++ (codes ",\"pass\":" ++ decimal moment.pass)) nine in
    let places = c.deref-2.ensures.value ∙ c.in_ok-places_of.ensures ∙ ap (λ all. flat_map places_text all) c.items.ensures in
    let eleven = c.in_ok-put_list-2.ensures ∙ ap₂ (λ (l t : List ℕ). l ++ (codes ",\"places\":" ++ json_list t)) ten places in
    let twelve = c.in_ok-put_number-6.ensures ∙ ap (λ (l : List ℕ). l ++ (codes ",\"round\":" ++ decimal moment.round)) eleven in
    let thirteen = c.in_ok-put_text-2.ensures ∙ ap₂ (λ (l n : List ℕ). l ++ (codes ",\"stage\":" ++ quoted n)) twelve c.part_name.ensures in
    let fourteen = c.in_ok-put_number-7.ensures ∙ ap (λ (l : List ℕ). l ++ (codes ",\"tick\":" ++ decimal place.tick)) thirteen in
    c.in_ok-extend_from_slice-2.ensures.items ∙ ap (λ (l : List ℕ). l ++ codes "}\n") fourteen
    ∙ in_parts lines (codes "{"
    ∷ block_text c.args.part
    ∷ (codes "\"direction\":" ++ quoted (dir_name firing.scan))
    ∷ (codes ",\"group\":" ++ decimal moment.group)
    ∷ (codes ",\"headings\":" ++ json_list (headings_of state.game.objects level))
    ∷ (codes ",\"input\":" ++ decimal place.number)
    ∷ (codes ",\"instance\":" ++ decimal moment.instance)
    ∷ (codes ",\"level\":" ++ quoted text)
    ∷ (codes ",\"line\":" ++ decimal firing.line)
    ∷ (codes ",\"pass\":" ++ decimal moment.pass)
    ∷ (codes ",\"places\":" ++ json_list (flat_map places_text firing.places))
    ∷ (codes ",\"round\":" ++ decimal moment.round)
    ∷ (codes ",\"stage\":" ++ quoted (part_name c.args.part))
    ∷ (codes ",\"tick\":" ++ decimal place.tick)
    ∷ codes "}\n" ∷ [])
