use Rattle.std.proofs.Common.{◌≡◌, ◌+◌, ◌==◌, ℕ, List, length, drop, sym, ◌∙◌, ap, arith}
use Rattle.std.specs.Prelude.{if◌then◌else◌, Some}
use Rattle.std.specs.List.{list_any}
use Rattle.pz_source.specs.Layers.{last_layer, holds, entry_at, members_of}
use Rattle.pz_base.proofs.ListLemmas.{drop-next}
use Rattle.pz_source.proofs.layers.layer_table.Goals as goal

pub loop-number-preserved : goal.loop-number-preserved
loop-number-preserved c = λ k lt.
    let names = c.args.names.now in
    let values = c.args.values.now in
    let xs = c.args.layers.now in
    let i = c.loop-number.number in
    let x = c.index-layers-number.result in
    let h = holds names values in
    let long : length c.loop-number.entries ≡ c.args.count = omega (arith, c.loop-number.auto.entries, c.as_mut_slice-entries.ensures.len, c.in_ok-table.ensures.len) in
    let put : entry_at c.put_layer.new.table k ≡ (if h x k then Some i else entry_at c.loop-number.entries k) =
    c.put_layer.ensures k (omega arith)
    ∙ ap (λ (ns : List (List ℕ)). if list_any (λ name. list_any (λ object. object == k) (members_of names values name)) ns then Some i else entry_at c.loop-number.entries k) c.items.ensures in
    ap (λ e. last_layer h (i + 1) e (drop (i + 1) xs) k) put
    ∙ (ap (λ ls. last_layer h i (entry_at c.loop-number.entries k) ls k) (sym (drop-next xs i x c.loop-number-test.true c.index-layers-number.is)) ∙ c.loop-number.invariant k lt)
