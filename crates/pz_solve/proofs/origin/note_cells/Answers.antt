use Rattle.std.proofs.Common.{◌<◌, length}
use Rattle.std.proofs.lemmas.List.Elements.{All-push}
use Rattle.pz_solve.proofs.Turning.{all_same, one_noted, one_passed}
use Rattle.pz_solve.proofs.origin.note_cells.Goals as goal
use Rattle.pz_solve.proofs.origin.note_cells.Goals.{then-old-index+in_ok-push, else-old-index}

pub loop-index-preserved : goal.loop-index-preserved
loop-index-preserved c =
    let old = c.args.old.now in
    let new = c.args.new.now in
    let cells = c.loop-index.cells.items in
    let index = c.loop-index.index in
    elim c.if-old-index.branch [
      | then-old-index+in_ok-push w ↦ (
          rw w.cells-is (rw w.in_ok-push.ensures.items (record {
            within = All-push (λ n. n < length old) cells index c.loop-index.invariant.within c.loop-index-test.true;
            rest = one_noted index cells old new c.loop-index.invariant.rest;
          }))
          )
      | else-old-index w ↦ (
          rw w.cells-is (record {
            within = c.loop-index.invariant.within;
            rest = one_passed index cells old new c.loop-index-test.true c.requires.long w.if-old-index.false c.loop-index.invariant.rest;
          })
          )
    ]

pub returns-clause-rest : goal.returns-clause-rest
returns-clause-rest c = all_same c.loop-index.index c.loop-index.cells.items c.args.old.now c.args.new.now c.loop-index-test.false c.requires.long c.loop-index.invariant.rest
