use Rattle.std.proofs.Common.{◌≡◌, ℕ, ◌-◌, ◌<◌, List, All, Some, length, get_or, set, refl, ap, sym, ◌∙◌, subst, arith}
use Rattle.std.specs.Prelude.{slice_get}
use Rattle.std.proofs.lemmas.List.Elements.{All-get_or, All-push}
use Rattle.std.proofs.lemmas.Option.{slice_get-get_or, slice_get_within}
use Rattle.pz_sheet.specs.Changes.{differ_in}
use Rattle.pz_sheet.specs.Grid.{Grid, SameSize}
use Rattle.pz_sheet.specs.Presence.{cell_of}
use Rattle.pz_store.specs.Book.{AreNumbers}
use Rattle.pz_store.specs.Digest.{digest_of, power_of}
use Rattle.pz_store.specs.Levels.{IsRow, LevelsState, level_of}
use Rattle.pz_store.proofs.Books.{as_many}
use Rattle.pz_store.proofs.Renumbering.{changed_all, changed_more, digest_replaced, row_more}
use Rattle.pz_store.proofs.Rowing.{all_numbered, each_more, left_more, level_is, row_still, rows_still, size_on}
use Rattle.pz_store.proofs.levels.Levels.number.Goals as goal

pub changes-init : goal.changes-init
changes-init c =
    let book = c.self.inside.book in
    let before = c.args.before.now.grid in
    let level = c.args.level.now.grid in
    let numbers = c.args.numbers.now in
    let is = sym c.self.view_is in
    let size : SameSize book.frame before = subst (λ (l : LevelsState). SameSize l.frame before) is c.requires.frame in
    let row : IsRow book.frame book.cells numbers = subst (λ (l : LevelsState). IsRow l.frame l.cells numbers) is c.requires.row in
    let are : AreNumbers book.cells numbers before = subst (λ (l : LevelsState). AreNumbers l.cells numbers before) is c.requires.numbers in
    let many = as_many before level c.width.ensures.lawful c.width-2.ensures.lawful c.requires.size in
    record {
      levels = c.self.invariant;
      frame = ap (λ (l : LevelsState). l.frame) c.self.view_is;
      objects = ap (λ (l : LevelsState). l.objects) c.self.view_is;
      grids = ap (λ (l : LevelsState). l.grids) c.self.view_is;
      extends = λ number cell is. ap (λ (l : LevelsState). slice_get l.cells number) c.self.view_is ∙ is;
      size = size_on book.frame before level size c.requires.size;
      long = many ∙ sym are.long ∙ row.long;
      known = c.none-known.ensures (differ_in level before) (length level.cells);
      row = row;
      low = omega arith;
      each = λ index number below is. absurd (omega (arith, below));
      left = λ index number behind is. are.each index number is;
      digest = c.requires.digest ∙ ap (λ (l : LevelsState). digest_of l.objects before) is ∙ ap (λ (g : Grid). digest_of book.objects g) (sym (level_is book.frame before book.cells numbers size are));
      changed = refl;
      within = λ all. all;
    }

pub invariant_of-self : goal.invariant_of-self
invariant_of-self c = (rows_still c.changes.self-inside.book c.number_of.new.self c.changes.self-inside.rows c.changes.self-inside.powers.items c.changes.invariant.levels c.number_of.ensures.frame c.number_of.ensures.extends).0

pub returns-in_err-number-clause-grids : goal.returns-in_err-number-clause-grids
returns-in_err-number-clause-grids c = (rows_still c.changes.self-inside.book c.number_of.new.self c.changes.self-inside.rows c.changes.self-inside.powers.items c.changes.invariant.levels c.number_of.ensures.frame c.number_of.ensures.extends).1 ∙ c.changes.invariant.grids

pub invariant_of-self-in_err-push : goal.invariant_of-self-in_err-push
invariant_of-self-in_err-push c = (rows_still c.changes.self-inside.book c.number_of.new.self c.changes.self-inside.rows c.changes.self-inside.powers.items c.changes.invariant.levels c.number_of.ensures.frame c.number_of.ensures.extends).0

pub returns-in_err-push-clause-grids : goal.returns-in_err-push-clause-grids
returns-in_err-push-clause-grids c = (rows_still c.changes.self-inside.book c.number_of.new.self c.changes.self-inside.rows c.changes.self-inside.powers.items c.changes.invariant.levels c.number_of.ensures.frame c.number_of.ensures.extends).1 ∙ c.changes.invariant.grids

pub word-old-requires : goal.word-old-requires
word-old-requires c =
    let book = c.changes.self-inside.book in
    let news = c.number_of.new.self.cells in
    let row = c.changes.invariant.row in
    let within : c.in-Some.index < length c.changes.numbers = omega (arith, c.in-Some.ensures.next.1, c.changes.invariant.long, row.long) in
    All-get_or (λ n. n < length news) c.changes.numbers c.in-Some.index 0 within (row_still book.frame book.cells news c.changes.numbers c.number_of.ensures.extends row).known

pub word-new-requires : goal.word-new-requires
word-new-requires c = slice_get_within c.number_of.new.self.cells c.in_ok-number.number (cell_of c.args.level.now.grid c.in-Some.index) c.in_ok-number.ensures.number

pub changes-preserved : goal.changes-preserved
changes-preserved c =
    let book = c.changes.self-inside.book in
    let new = c.number_of.new.self in
    let powers = c.changes.self-inside.powers.items in
    let frame = c.number_of.ensures.frame in
    let extends = c.number_of.ensures.extends in
    let still = rows_still book new c.changes.self-inside.rows powers c.changes.invariant.levels frame extends in
    let level = c.args.level.now.grid in
    let before = c.args.before.now.grid in
    let numbers = c.changes.numbers in
    let index = c.in-Some.index in
    let number = c.in_ok-number.number in
    let next = c.in-Some.ensures.next in
    let row = c.changes.invariant.row in
    let within : index < length numbers = omega (arith, next.1, c.changes.invariant.long, row.long) in
    let low : number < length new.cells = slice_get_within new.cells number (cell_of level index) c.in_ok-number.ensures.number in
    let many = as_many before level c.width.ensures.lawful c.width-2.ensures.lawful c.requires.size in
    let kept = c.changes.invariant.levels.powers in
    let power = c.index.result.now in
    let there : slice_get powers index ≡ Some power = slice_get-get_or powers index power (omega (arith, within, row.long, kept.long)) ∙ ap (λ (n : ℕ). Some n) (sym c.index.ensures) in
    let is_power : power ≡ power_of (length numbers - index) = kept.each index power there ∙ ap (λ (n : ℕ). power_of (n - index)) (sym row.long) in
    let digest = c.changes.invariant.digest ∙ ap (λ (n : ℕ). digest_of n (level_of book.frame book.cells numbers)) (sym c.number_of.ensures.objects) in
    let was : slice_get numbers index ≡ Some (get_or numbers index 0) = slice_get-get_or numbers index 0 within in
    let replaced = digest_replaced new.objects book.frame book.cells new.cells numbers index (get_or numbers index 0) number c.word-old.result c.word-new.result power c.changes.digest c.replaced-digest.result extends row was c.word-old.ensures c.word-new.ensures is_power digest c.replaced-digest.ensures in
    record {
      levels = still.0;
      frame = frame ∙ c.changes.invariant.frame;
      objects = c.number_of.ensures.objects ∙ c.changes.invariant.objects;
      grids = still.1 ∙ c.changes.invariant.grids;
      extends = λ number cell is. extends number cell (c.changes.invariant.extends number cell is);
      size = subst (λ (g : Grid). SameSize g level) (sym frame) c.changes.invariant.size;
      long = c.changes.invariant.long ∙ ap (λ (g : Grid). length g.cells) (sym frame);
      known = c.in-Some.ensures.known;
      row = row_more book.frame new.frame book.cells new.cells numbers index number frame extends low row;
      low = omega (arith, next.1);
      each = each_more book.cells new.cells numbers level before c.changes.from index number extends next.0 within next.3 c.changes.invariant.each c.changes.invariant.left c.in_ok-number.ensures.number;
      left = left_more book.cells new.cells numbers before c.changes.from index number extends next.0 c.changes.invariant.left;
      digest = replaced ∙ ap (λ (g : Grid). digest_of new.objects (level_of g new.cells (set numbers index number))) (sym frame);
      changed = changed_more level before c.args.changed.now.items c.changes.changed.items c.push.new.self.items c.changes.from index many next c.in_ok-push.ensures.items c.changes.invariant.changed;
      within = λ all. subst (λ (l : List ℕ). All (λ n. n < length level.cells) l) (sym c.in_ok-push.ensures.items) (All-push (λ n. n < length level.cells) c.changes.changed.items index (c.changes.invariant.within all) next.1);
    }

pub returns-clause-numbers : goal.returns-clause-numbers
returns-clause-numbers c =
    let long = c.changes.invariant.row.long ∙ sym c.changes.invariant.long in
    all_numbered c.changes.self-inside.book.cells c.changes.numbers c.args.level.now.grid c.args.before.now.grid c.changes.from long c.in_default.ensures.next c.changes.invariant.each c.changes.invariant.left

pub returns-clause-digest : goal.returns-clause-digest
returns-clause-digest c =
    let book = c.changes.self-inside.book in
    c.changes.invariant.digest ∙ ap (λ (g : Grid). digest_of book.objects g) (level_is book.frame c.args.level.now.grid book.cells c.changes.numbers c.changes.invariant.size (returns-clause-numbers c))

pub returns-clause-changed : goal.returns-clause-changed
returns-clause-changed c =
    let many = as_many c.args.before.now.grid c.args.level.now.grid c.width.ensures.lawful c.width-2.ensures.lawful c.requires.size in
    changed_all c.args.level.now.grid c.args.before.now.grid c.args.changed.now.items c.changes.changed.items c.changes.from many c.changes.invariant.low c.in_default.ensures.next c.changes.invariant.changed
