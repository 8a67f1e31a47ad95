use Rattle.pz_sheet.proofs.Common.{ℕ, List, get_or, sym, ◌∙◌, subst, AreApart, cell_of}
use Rattle.pz_sheet.proofs.HoldingLemmas.{low_number, each_missing}
use Rattle.pz_sheet.proofs.PushLemmas.{absent_pushed, unpushed_at}
use Rattle.pz_sheet.proofs.Sheet.push_at.Goals as goal

pub returns-then-is_disjoint : goal.returns-then-is_disjoint
returns-then-is_disjoint g c =
    let players = c.args.players.now in
    let words = c.objects_in.result.now in
    let apart : AreApart words c.args.set.now = subst (λ (set : List ℕ). AreApart words set) c.words.ensures.words (c.is_disjoint.ensures.0 c.if-is_disjoint.true) in
    let missing = each_missing players words c.args.set.now c.requires.set (low_number words c.objects_in.ensures.short) apart in
    unpushed_at players c.args.dir c.args.index c.args.self.now.grid (absent_pushed players c.args.dir (cell_of c.args.self.now.grid c.args.index) (λ k d within. sym (c.objects_in.ensures.objects (get_or players k d)) ∙ missing k d within))
