use Rattle.pz_grid.proofs.Common.{Item, List, arith, get_or, get_or_default, length, sym, ℕ, ◌<◌, ◌∙◌, ◌≡◌}
use Rattle.pz_grid.proofs.MoveLemmas.{more_item}
use Rattle.pz_grid.proofs.Level.mark_placed.Goals as goal

-- what is read in a list, under another name of the list
read_as : (xs ys : List Item) (i : ℕ) (d : Item) → i < length xs → xs ≡ ys → get_or ys i (get_or xs i d) ≡ get_or xs i d
read_as xs ys i d within same = rw (← same) (sym (get_or_default xs i d (get_or xs i d) within))

pub loop-item-preserved : goal.loop-item-preserved
loop-item-preserved c =
    let right = c.args.right.now in
    let i = c.loop-item.item-index in
    record {
      grid = c.mark_item.ensures.grid ∙ c.loop-item.invariant.grid;
      rows = more_item c.args.self.now.row_marks c.loop-item.self.row_marks c.mark_item.new.self.row_marks c.args.y right i _ (grind arith) (read_as c.items-item-items.result.now right i _ (omega arith) c.items-item-items.ensures) c.loop-item.invariant.rows c.mark_item.ensures.rows;
      columns = more_item c.args.self.now.column_marks c.loop-item.self.column_marks c.mark_item.new.self.column_marks c.args.x right i _ (grind arith) (read_as c.items-item-items.result.now right i _ (omega arith) c.items-item-items.ensures) c.loop-item.invariant.columns c.mark_item.ensures.columns;
    }
