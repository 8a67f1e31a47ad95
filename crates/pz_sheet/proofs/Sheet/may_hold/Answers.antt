use Rattle.pz_sheet.proofs.Common.{get_or, All, IsLow, low_of_game}
use Rattle.pz_sheet.proofs.HeadingLemmas.{asked_somewhere}
use Rattle.pz_sheet.proofs.Sheet.may_hold.Goals as goal

pub returns : goal.returns
returns g c = λ hold.
    let stored = c.self.invariant.stored in
    let cells = c.args.row.now.cells in
    let of_game = rw (← c.self.view_is) at c.requires.of_game in
    let low : All (All IsLow) cells = λ k d within. low_of_game c.self.inside.layers.depth c.self.inside.layers.layers (get_or cells k d) stored.law.layered stored.law.few stored.law.shallow (of_game k d within) in
    let noted = asked_somewhere _ _ _ _ _ _ stored cells c.required.result.now (c.required.ensures low) of_game (rw (← c.self.view_is) at hold) in
    c.has_subset.ensures.1 (rw (c.words-2.ensures.words, c.words.ensures.words, c.whole.ensures) noted)
