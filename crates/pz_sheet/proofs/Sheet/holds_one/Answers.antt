use Rattle.pz_sheet.proofs.Common.{◌∙◌, member, is_in, cell_of}
use Rattle.pz_sheet.proofs.HoldingLemmas.{low_number, found_by_set, any_alike}
use Rattle.pz_sheet.proofs.Sheet.holds_one.Goals as goal

pub returns : goal.returns
returns g c =
    let words = c.objects_in.result.now in
    found_by_set c.args.objects.now words c.args.set.now c.requires.set (low_number words c.objects_in.ensures.short) c.is_disjoint.result (rw c.words.ensures.words at c.is_disjoint.ensures)
    ∙ any_alike (member words) (is_in (cell_of c.args.self.now.grid c.args.index)) c.args.objects.now c.objects_in.ensures.objects
