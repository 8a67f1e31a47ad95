use Rattle.std.proofs.Common.{◌≡◌, ◌+◌, ℕ, List, [], Some, drop, fold, map, ap, get_or, sym, ◌∙◌, subst, arith}
use Rattle.std.specs.Prelude.{slice_get, option_map}
use Rattle.std.proofs.lemmas.Option.{slice_get-get_or}
use Rattle.std.proofs.Math.ListN.{drop_of_length-le}
use Rattle.pz_store.specs.Book.{CellSeen}
use Rattle.pz_store.specs.Digest.{cell_word, digest_of, digest_with}
use Rattle.pz_store.specs.Levels.{LevelsState}
use Rattle.pz_store.proofs.Rowing.{digest_more}
use Rattle.pz_store.proofs.levels.Levels.digest.Goals as goal

pub returns : goal.returns
returns c = λ grid are.
    let objects = c.args.self.now.objects in
    let none : drop c.loop-number.number-index grid.cells ≡ [] = drop_of_length-le grid.cells (omega (arith, c.loop-number-test.false, are.long)) in
    ap (λ (l : List CellSeen). fold digest_with c.loop-number.digest (map (cell_word objects) l)) (sym none) ∙ c.loop-number.invariant grid are

pub loop-number-preserved : goal.loop-number-preserved
loop-number-preserved c = λ grid are.
    let objects = c.args.self.now.objects in
    let index = c.loop-number.number-index in
    let number = get_or c.args.numbers.now index 0 in
    let told = subst (λ (l : LevelsState). option_map (cell_word l.objects) (slice_get l.cells number) ≡ Some c.word.result) c.self.view_is c.word.ensures in
    ap (λ (d : ℕ). fold digest_with d (map (cell_word objects) (drop (index + 1) grid.cells))) c.mixed-digest.ensures
    ∙ digest_more objects c.args.self.now.cells c.args.numbers.now grid index number c.word.result c.loop-number.digest (digest_of objects grid) are (slice_get-get_or c.args.numbers.now index 0 c.loop-number-test.true) told (c.loop-number.invariant grid are)
