use Rattle.std.proofs.Common.{◌≡◌, ◌+◌, false, [], ◌∷◌, ◌++◌, map, drop, ap, sym, ◌∙◌, List, Bor}
use Rattle.std.specs.List.{slice_range}
use Rattle.pz_source.proofs.LevelLemmas.{range-next, entries-row}
use Rattle.pz_names.specs.Objects.{is_blank}
use Rattle.pz_source.specs.Levels.{entries_of, is_message}
use Rattle.pz_base.proofs.ListLemmas.{drop-next}
use Rattle.pz_text.specs.declared.line.Line.{Line}
use Rattle.pz_source.proofs.levels.pass.Goals as goal

pub returns-clause-after : goal.returns-clause-after
returns-clause-after c =
    let lines = c.args.lines.now in
    let start = c.args.start in
    let place = c.args.place in
    let line = c.index-lines-place.result in
    let rows = slice_range lines start place in
    let more = drop (place + 1) lines in
    let parts : drop place lines ≡ line ∷ more = drop-next lines place line c.requires.below c.index-lines-place.is in
    let longer : slice_range lines start (place + 1) ≡ rows ++ line ∷ [] = range-next lines start place line c.requires.within c.requires.below c.index-lines-place.is in
    let full : is_blank line ≡ false = sym c.is_blank.ensures ∙ c.if-is_blank.false in
    let silent : is_message line ≡ false = sym c.is_message.ensures ∙ c.if-is_message.false in
    let step = entries-row rows line more full silent in
    ap (λ r. map (λ (entry : Bor (List Line)). entry.now) c.args.entries.now.items ++ r)
    (ap (λ r. entries_of r more) longer ∙ (sym step ∙ ap (entries_of rows) (sym parts)))
