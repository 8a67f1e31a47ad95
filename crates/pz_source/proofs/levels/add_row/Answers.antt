use Rattle.std.proofs.Common.{◌≡◌, ◌+◌, ◌-◌, [], ◌∷◌, ◌++◌, drop, ap, sym, ◌∙◌, append_assoc, length, length-append, arith}
use Rattle.pz_source.proofs.LevelLemmas.{filled-step}
use Rattle.pz_source.specs.Levels.{row_of_length}
use Rattle.pz_source.proofs.levels.add_row.Goals as goal

pub loop-column-preserved : goal.loop-column-preserved
loop-column-preserved c =
    let row = c.args.row.now in
    let width = c.args.width in
    let i = c.loop-column.column in
    let items = c.loop-column.cells.items in
    let next = c.next_glyph-last.result in
    let rest = drop (i + 1) row in
    let pushed : c.push.new.self.items ≡ items ++ next ∷ [] = c.in_ok-push.ensures.items in
    let step : row_of_length (width - i) c.loop-column.last (drop i row) ≡ next ∷ row_of_length (width - (i + 1)) next rest =
    filled-step row width c.loop-column.last i c.loop-column-test.true ∙ ap (λ x. x ∷ row_of_length (width - (i + 1)) x rest) (sym c.next_glyph-last.ensures) in
    let cells =
    ap (λ m. m ++ row_of_length (width - (i + 1)) next rest) pushed
    ∙ (append_assoc items (next ∷ []) (row_of_length (width - (i + 1)) next rest) ∙ (ap (λ r. items ++ r) (sym step) ∙ c.loop-column.invariant.cells)) in
    let long = length-append items (next ∷ []) in
    record { cells = cells; count = omega (arith, ap length pushed, long, c.loop-column.invariant.count) }
