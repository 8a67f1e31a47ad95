use Rattle.std.proofs.Common.{[], ◌∷◌, ℕ, List, length, length-append, ap, sym, ◌∙◌, subst, arith}
use Rattle.pz_sheet.specs.Grid.{Grid, SameSize}
use Rattle.pz_store.proofs.Rowing.{numbers_more, row_of_numbers, rows_still}
use Rattle.pz_store.proofs.levels.Levels.number_all.Goals as goal

pub invariant_of-self-in_err-number_of : goal.invariant_of-self-in_err-number_of
invariant_of-self-in_err-number_of c = (rows_still c.loop-index.self-inside.book c.number_of.new.self c.loop-index.self-inside.rows c.loop-index.self-inside.powers.items c.loop-index.invariant.levels c.number_of.ensures.frame c.number_of.ensures.extends).0

pub returns-in_err-number_of-clause-grids : goal.returns-in_err-number_of-clause-grids
returns-in_err-number_of-clause-grids c = (rows_still c.loop-index.self-inside.book c.number_of.new.self c.loop-index.self-inside.rows c.loop-index.self-inside.powers.items c.loop-index.invariant.levels c.number_of.ensures.frame c.number_of.ensures.extends).1 ∙ c.loop-index.invariant.grids

pub invariant_of-self-in_err-push : goal.invariant_of-self-in_err-push
invariant_of-self-in_err-push c = (rows_still c.loop-index.self-inside.book c.number_of.new.self c.loop-index.self-inside.rows c.loop-index.self-inside.powers.items c.loop-index.invariant.levels c.number_of.ensures.frame c.number_of.ensures.extends).0

pub returns-in_err-push-clause-grids : goal.returns-in_err-push-clause-grids
returns-in_err-push-clause-grids c = (rows_still c.loop-index.self-inside.book c.number_of.new.self c.loop-index.self-inside.rows c.loop-index.self-inside.powers.items c.loop-index.invariant.levels c.number_of.ensures.frame c.number_of.ensures.extends).1 ∙ c.loop-index.invariant.grids

pub loop-index-preserved : goal.loop-index-preserved
loop-index-preserved c =
    let book = c.loop-index.self-inside.book in
    let new = c.number_of.new.self in
    let frame = c.number_of.ensures.frame in
    let still = rows_still book new c.loop-index.self-inside.rows c.loop-index.self-inside.powers.items c.loop-index.invariant.levels frame c.number_of.ensures.extends in
    let grid = c.args.level.now.grid in
    let numbers = c.loop-index.numbers.items in
    let number = c.in_ok-number_of.field-0 in
    record {
      levels = still.0;
      frame = frame ∙ c.loop-index.invariant.frame;
      objects = c.number_of.ensures.objects ∙ c.loop-index.invariant.objects;
      grids = still.1 ∙ c.loop-index.invariant.grids;
      size = subst (λ (g : Grid). SameSize g grid) (sym frame) c.loop-index.invariant.size;
      long = c.loop-index.invariant.long ∙ ap (λ (g : Grid). length g.cells) (sym frame);
      count = ap (λ (l : List ℕ). length l) c.in_ok-push.ensures.items ∙ omega (arith, length-append numbers (number ∷ []), c.loop-index.invariant.count);
      each = numbers_more book.cells new.cells numbers c.push.new.self.items grid c.loop-index.index number c.number_of.ensures.extends c.in_ok-push.ensures.items c.loop-index.invariant.count c.loop-index.invariant.each c.in_ok-number_of.ensures.number;
    }

pub returns-clause-row : goal.returns-clause-row
returns-clause-row c =
    let book = c.loop-index.self-inside.book in
    let grid = c.args.level.now.grid in
    row_of_numbers book.frame grid book.cells c.loop-index.numbers.items c.loop-index.invariant.long (record {
      long = omega (arith, c.loop-index.invariant.count, c.loop-index-test.false, c.loop-index.auto.index-end, c.cell_count-index-end.ensures);
      each = c.loop-index.invariant.each;
    })
