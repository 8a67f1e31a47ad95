use Rattle.pz_sheet.proofs.SameLemmas.{size_of, none_differs}
use Rattle.pz_sheet.proofs.Sheet.equals.Goals as goal

pub returns-then-same_size : goal.returns-then-same_size
returns-then-same_size g c =
    let grid = c.args.self.now.grid in
    let other = c.args.other.now.grid in
    let size = size_of grid other (c.same_size.ensures.0 c.if-same_size.true) in
    none_differs grid other c.next_change.result c.is_none.result size c.next_change.ensures.as_many c.is_none.ensures c.next_change.ensures.next
