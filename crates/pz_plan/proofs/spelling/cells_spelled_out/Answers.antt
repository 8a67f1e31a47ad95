use Rattle.std.proofs.Common.{◌+◌, ◌++◌, drop, refl, ap, sym, ◌∙◌, append_assoc}
use Rattle.std.specs.List.{flat_map}
use Rattle.std.proofs.lemmas.List.{append-nil, drop_all}
use Rattle.pz_base.proofs.ListLemmas.{drop-next}
use Rattle.pz_plan.specs.Spelling.{cell_of}
use Rattle.pz_plan.proofs.spelling.cells_spelled_out.Goals as goal

pub loop-cell-init : goal.loop-cell-init
loop-cell-init c = rw c.new-out.ensures.items refl

pub loop-cell-preserved : goal.loop-cell-preserved
loop-cell-preserved c =
    let said = cell_of c.args.side c.args.table.now in
    let row = c.args.row.now in
    let i = c.loop-cell.cell-index in
    let cell = c.cell-item.result in
    let out = c.loop-cell.out.items in
    let rest = flat_map said (drop (i + 1) row) in
    ap (λ l. l ++ rest) c.in_ok-add_cell.ensures
    ∙ (append_assoc out (said cell) rest ∙ (ap (λ l. out ++ flat_map said l) (sym (drop-next row i cell c.loop-cell-test.true c.cell-item.is)) ∙ c.loop-cell.invariant))

pub returns : goal.returns
returns c =
    let said = cell_of c.args.side c.args.table.now in
    let out = c.loop-cell.out.items in
    let over = drop_all c.loop-cell.cell-index c.args.row.now c.loop-cell-test.false in
    c.new.ensures ∙ (sym (append-nil out) ∙ (ap (λ l. out ++ flat_map said l) (sym over) ∙ c.loop-cell.invariant))
