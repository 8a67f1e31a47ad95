use Rattle.std.proofs.Common.{arith, ap, sym, ◌∙◌, ◌≡◌, ◌<◌, length, length-set, get_or, drop_of_length-le, subst, List, ℕ}
use Rattle.std.proofs.lemmas.List.Elements.{All-get_or}
use Rattle.pz_sheet.specs.Grid.{Grid}
use Rattle.pz_sheet.specs.Presence.{cell_of}
use Rattle.pz_bare.specs.Differing.{DifferWithin}
use Rattle.pz_bare.proofs.DifferingLemmas.{with_one_taken, same_without}
use Rattle.pz_bare.proofs.BareLevel.take_cells_of.Goals as goal

pub loop-cell-preserved : goal.loop-cell-preserved
loop-cell-preserved c =
    let grid = c.loop-cell.self.grid in
    let other = c.args.other.now.grid in
    let cells = c.args.cells.now in
    let at = c.loop-cell.cell-index in
    let size = c.loop-cell.invariant.size in
    let is = c.take_cell_of.ensures in
    let within = subst (λ (n : ℕ). get_or cells at 0 < n) (sym c.loop-cell.invariant.long) (All-get_or (λ (n : ℕ). n < length c.args.self.now.grid.cells) cells at 0 c.loop-cell-test.true c.requires.within) in
    record {
      size = rw is (record { width = size.width; height = size.height; depth = size.depth; layers = size.layers });
      long = ap (λ (level : Grid). length level.cells) is ∙ length-set grid.cells (get_or cells at 0) (cell_of other (get_or cells at 0)) ∙ c.loop-cell.invariant.long;
      rest = λ index none. rw is (with_one_taken grid other cells at c.loop-cell-test.true within c.loop-cell.invariant.rest index none);
    }

pub returns : goal.returns
returns c =
    let grid = c.loop-cell.self.grid in
    let other = c.args.other.now.grid in
    let long : length grid.cells ≡ length other.cells = grind (arith, c.loop-cell.invariant.long, c.width.ensures.lawful.covers, c.width-2.ensures.lawful.covers, c.requires.size.width, c.requires.size.height) in
    same_without grid other c.loop-cell.invariant.size long (subst (λ (l : List ℕ). DifferWithin l grid other) (drop_of_length-le c.args.cells.now c.loop-cell-test.false) c.loop-cell.invariant.rest)
