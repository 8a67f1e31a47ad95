use Rattle.std.proofs.Common.{◌≡◌, ◌<◌, ℕ, List, Some, sym, ◌∙◌, arith, length, get_or, subst, drop_of_length-le}
use Rattle.std.specs.Prelude.{slice_get}
use Rattle.std.proofs.lemmas.List.Elements.{All-get_or}
use Rattle.std.proofs.lemmas.Option.{slice_get-get_or}
use Rattle.pz_bare.specs.Differing.{DifferWithin}
use Rattle.pz_bare.proofs.DifferingLemmas.{with_one_taken, same_without}
use Rattle.pz_grid.proofs.MovementLemmas.{same_size_on}
use Rattle.pz_sheet.proofs.NewerLemmas.{size_back}
use Rattle.pz_solve.proofs.Turning.{put_is, put_keeps}
use Rattle.pz_solve.proofs.origin.put_cells.Goals as goal
use Rattle.pz_solve.proofs.origin.put_cells.Goals.{After-put}

within : (c : After-put) → get_or c.args.cells.now c.loop-cell.cell-index 0 < length c.loop-cell.bare.grid.cells
within c = subst (λ (n : ℕ). get_or c.args.cells.now c.loop-cell.cell-index 0 < n) (sym c.loop-cell.invariant.long) (All-get_or (λ (n : ℕ). n < length c.args.bare.now.grid.cells) c.args.cells.now c.loop-cell.cell-index 0 c.loop-cell-test.true c.requires.within)

pub loop-cell-preserved : goal.loop-cell-preserved
loop-cell-preserved c =
    let cells = c.args.cells.now in
    let at = c.loop-cell.cell-index in
    let cell = get_or cells at 0 in
    let numbers = c.args.numbers.now in
    let here = within c in
    let is : slice_get numbers cell ≡ Some (get_or numbers cell 0) = slice_get-get_or numbers cell 0 (omega (arith, here, c.loop-cell.invariant.long, c.requires.long)) in
    let kept = put_keeps c.args.levels.now.frame c.loop-cell.bare.grid c.put.new.level.grid cell (slice_get c.args.levels.now.cells (get_or numbers cell 0)) c.put.ensures c.loop-cell.invariant.size in
    record {
      size = kept.0;
      long = kept.1 ∙ c.loop-cell.invariant.long;
      rest = λ there size are differ.
          rw (put_is c.args.levels.now.cells numbers c.loop-cell.bare.grid c.put.new.level.grid there cell (get_or numbers cell 0) are is c.put.ensures)
          (with_one_taken c.loop-cell.bare.grid there cells at c.loop-cell-test.true here (c.loop-cell.invariant.rest there size are differ));
    }

pub returns : goal.returns
returns c = λ there size are differ.
    let grid = c.loop-cell.bare.grid in
    let long : length grid.cells ≡ length there.cells = omega (arith, c.loop-cell.invariant.long, c.requires.long, are.long) in
    same_without grid there (same_size_on grid c.args.levels.now.frame there (size_back c.args.levels.now.frame grid c.loop-cell.invariant.size) size) long (subst (λ (l : List ℕ). DifferWithin l grid there) (drop_of_length-le c.args.cells.now c.loop-cell-test.false) (c.loop-cell.invariant.rest there size are differ))
