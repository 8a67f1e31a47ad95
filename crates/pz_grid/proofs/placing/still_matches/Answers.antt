use Rattle.pz_grid.proofs.Common.{Place, arith, eq-eqb, get_or_default, length, still_holds}
use Rattle.pz_grid.proofs.FoldLemmas.{all_zip_more, all_zip_fails, all_zip_all}
use Rattle.pz_grid.proofs.placing.still_matches.Goals as goal

pub returns-then-not-still_holds : goal.returns-then-not-still_holds
returns-then-not-still_holds c =
    let rows = c.items-rows.result.now in
    let places = c.args.places.now in
    let i = c.loop-index.index in
    let none : Place = record { x = 0; y = 0; gap = 0 } in
    let fails = all_zip_fails (still_holds c.args.level.now.grid c.args.instance.now.scan) rows places i c.index-rows-index.result _ (omega arith) (omega arith) c.index-rows-index.is (get_or_default places i none _ (omega arith)) (grind arith) in
    grind (arith, fails, eq-eqb (length places) (length rows))

pub loop-index-preserved : goal.loop-index-preserved
loop-index-preserved c =
    let places = c.args.places.now in
    let i = c.loop-index.index in
    let none : Place = record { x = 0; y = 0; gap = 0 } in
    all_zip_more (still_holds c.args.level.now.grid c.args.instance.now.scan) c.items-rows.result.now places i c.index-rows-index.result _ (omega arith) (omega arith) c.index-rows-index.is (get_or_default places i none _ (omega arith)) c.loop-index.invariant (grind arith)

pub returns : goal.returns
returns c =
    let rows = c.items-rows.result.now in
    let places = c.args.places.now in
    let all = all_zip_all (still_holds c.args.level.now.grid c.args.instance.now.scan) rows places c.loop-index.index (omega arith) c.loop-index.invariant in
    grind (arith, all, eq-eqb (length places) (length rows))
