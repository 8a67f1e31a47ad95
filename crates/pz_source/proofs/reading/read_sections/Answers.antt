use Rattle.std.proofs.Common.{◌≡◌, refl, ap, sym, ◌∙◌, length}
use Rattle.std.specs.Prelude.{None, Ok, Err}
use Rattle.pz_source.specs.Missing.{fault_of_needs}
use Rattle.pz_source.specs.Profile.{options_of}
use Rattle.pz_source.specs.Layers.{layer_lines, fault_of_layers, layers_of}
use Rattle.pz_source.specs.Wins.{wins_of}
use Rattle.pz_source.specs.Levels.{glyph_of, levels_of}
use Rattle.pz_text.specs.Section.{lines_in}
use Rattle.pz_text.specs.declared.line.Section.TheVariants as section
use Rattle.pz_source.proofs.FoundLemmas.{BothGive, both-first, both-second, Placed, placed-none, placed-layers, placed-depth, placed-refused}
use Rattle.pz_source.proofs.GameLemmas.{at_layers, at_behind, at_game, is_game}
use Rattle.pz_source.proofs.reading.read_sections.Goals as goal

pub returns-in-Err-clause-read : goal.returns-in-Err-clause-read
returns-in-Err-clause-read c =
    let lines = c.args.lines.now in
    let objects = c.args.objects.now in
    let names = c.args.names.now in
    let values = c.args.values.now in
    let part = c.lines_in-of_layers.result.now in
    let needed : fault_of_needs names values ≡ None = sym c.in_default.ensures in
    let check = fault_of_layers objects names values part in
    let layers = layers_of objects names values part in
    let depth = length (layer_lines part) in
    let refused : Placed check layers depth (Err c.in-Err.fault) = rw c.in-Err.is at c.in_ok-found.ensures in
    sym (at_layers lines objects names values values refl needed part c.lines_in-of_layers.ensures c.in-Err.fault (placed-refused check layers depth c.in-Err.fault refused))

pub returns-in-Err-2-clause-read : goal.returns-in-Err-2-clause-read
returns-in-Err-2-clause-read c =
    let lines = c.args.lines.now in
    let objects = c.args.objects.now in
    let names = c.args.names.now in
    let values = c.args.values.now in
    let part = c.lines_in-of_layers.result.now in
    let needed : fault_of_needs names values ≡ None = sym c.in_default.ensures in
    let check = fault_of_layers objects names values part in
    let layers = layers_of objects names values part in
    let depth = length (layer_lines part) in
    let laid : Placed check layers depth (Ok (c.in-Ok.found.0.items, c.in-Ok.found.1)) = rw c.in-Ok.is at c.in_ok-found.ensures in
    let clear = placed-none check layers c.in-Ok.found.0.items depth c.in-Ok.found.1 laid in
    let wins = wins_of names (lines_in section.Wins lines) in
    let entries = levels_of (glyph_of names values) (lines_in section.Levels lines) in
    let refused : BothGive wins entries (Err c.in-Err-2.fault) = rw c.in-Err-2.is at c.in_ok-found-2.ensures in
    sym (at_behind lines objects names values values refl needed part c.lines_in-of_layers.ensures c.in-Err-2.fault clear refused)

pub returns-clause-game : goal.returns-clause-game
returns-clause-game c =
    let lines = c.args.lines.now in
    let objects = c.args.objects.now in
    let names = c.args.names.now in
    let values = c.args.values.now in
    let part = c.lines_in-of_layers.result.now in
    let needed : fault_of_needs names values ≡ None = sym c.in_default.ensures in
    let check = fault_of_layers objects names values part in
    let layers = layers_of objects names values part in
    let depth = length (layer_lines part) in
    let laid : Placed check layers depth (Ok (c.in-Ok.found.0.items, c.in-Ok.found.1)) = rw c.in-Ok.is at c.in_ok-found.ensures in
    let clear = placed-none check layers c.in-Ok.found.0.items depth c.in-Ok.found.1 laid in
    let wins = wins_of names (lines_in section.Wins lines) in
    let entries = levels_of (glyph_of names values) (lines_in section.Levels lines) in
    let both : BothGive wins entries (Ok (c.in-Ok-2.found.0.items, c.in-Ok-2.found.1.items)) = rw c.in-Ok-2.is at c.in_ok-found-2.ensures in
    let of_wins = both-first wins entries c.in-Ok-2.found.0.items c.in-Ok-2.found.1.items both ∙ ap (λ ws. Ok ws) (sym c.new-3.ensures) in
    let of_levels = both-second wins entries c.in-Ok-2.found.0.items c.in-Ok-2.found.1.items both ∙ ap (λ es. Ok es) (sym c.new-4.ensures) in
    let same = c.new.ensures ∙ placed-layers check layers c.in-Ok.found.0.items depth c.in-Ok.found.1 laid in
    let long = placed-depth check layers c.in-Ok.found.0.items depth c.in-Ok.found.1 laid in
    is_game objects names values c.requires.few c.requires.named c.requires.all c.requires.denoted needed part clear (lines_in section.Levels lines) c.new-4.result of_levels c.new-2.result c.new-3.result
    c.options_of.result c.in_ok-firsts.firsts values c.new.result c.in-Ok.found.1 c.in_ok-firsts.ensures refl same long

pub returns-clause-read : goal.returns-clause-read
returns-clause-read c =
    let lines = c.args.lines.now in
    let objects = c.args.objects.now in
    let names = c.args.names.now in
    let values = c.args.values.now in
    let part = c.lines_in-of_layers.result.now in
    let needed : fault_of_needs names values ≡ None = sym c.in_default.ensures in
    let check = fault_of_layers objects names values part in
    let layers = layers_of objects names values part in
    let depth = length (layer_lines part) in
    let laid : Placed check layers depth (Ok (c.in-Ok.found.0.items, c.in-Ok.found.1)) = rw c.in-Ok.is at c.in_ok-found.ensures in
    let clear = placed-none check layers c.in-Ok.found.0.items depth c.in-Ok.found.1 laid in
    let wins = wins_of names (lines_in section.Wins lines) in
    let entries = levels_of (glyph_of names values) (lines_in section.Levels lines) in
    let both : BothGive wins entries (Ok (c.in-Ok-2.found.0.items, c.in-Ok-2.found.1.items)) = rw c.in-Ok-2.is at c.in_ok-found-2.ensures in
    let of_wins = both-first wins entries c.in-Ok-2.found.0.items c.in-Ok-2.found.1.items both ∙ ap (λ ws. Ok ws) (sym c.new-3.ensures) in
    let of_levels = both-second wins entries c.in-Ok-2.found.0.items c.in-Ok-2.found.1.items both ∙ ap (λ es. Ok es) (sym c.new-4.ensures) in
    let same = c.new.ensures ∙ placed-layers check layers c.in-Ok.found.0.items depth c.in-Ok.found.1 laid in
    let long = placed-depth check layers c.in-Ok.found.0.items depth c.in-Ok.found.1 laid in
    sym (at_game lines objects names values values refl needed part c.lines_in-of_layers.ensures (lines_in section.Wins lines) (lines_in section.Levels lines) c.new-3.result c.new-4.result refl refl clear of_wins of_levels
    c.in_ok-firsts.firsts values c.new.result c.in-Ok.found.1 c.new-2.result c.options_of.result c.in_ok-firsts.ensures refl same long (c.new-2.ensures ∙ c.requires.rules)
    (c.options_of.ensures ∙ ap options_of c.lines_in.ensures))
