use Rattle.std.proofs.Common.{◌≡◌, ◌+◌, ◌≤◌, ◌<◌, ◌*◌, map, drop, length, slice_index_or, arith, ap, sym, ◌∙◌}
use Rattle.std.proofs.lemmas.List.{get_or_default}
use Rattle.pz_plan.specs.declared.plan.Choice.{Choice}
use Rattle.pz_plan.specs.declared.plan.Asked.TheVariants.{Member}
use Rattle.std.proofs.lemmas.List.Elements.{All-drop}
use Rattle.std.proofs.Math.Nat.{mul-le-mul_left}
use Rattle.pz_base.specs.Lists.{product_of}
use Rattle.pz_rules.specs.Counting.{size_of}
use Rattle.pz_rules.proofs.CountingLemmas.{product-positive, above-stays, next-size, next-count}
use Rattle.pz_rules.proofs.counting.product_within.Goals as goal

pub returns-then-count-limit : goal.returns-then-count-limit
returns-then-count-limit c =
    let xs = c.args.choices.now in
    above-stays c.choices.count _ _ c.args.limit c.choices.invariant (product-positive c.args.table.now _ (All-drop (λ d. 1 ≤ size_of c.args.table.now d) c.choices.choice-index xs c.requires.sizes)) (omega arith)

pub returns-in-None : goal.returns-in-None
returns-in-None c =
    λ within.
    let xs = c.args.choices.now in
    let i = c.choices.choice-index in
    let rest = product_of (map (size_of c.args.table.now) (drop (i + 1) xs)) in
    let some : 1 ≤ rest = product-positive c.args.table.now _ (All-drop (λ d. 1 ≤ size_of c.args.table.now d) (i + 1) xs c.requires.sizes) in
    let first : Choice = record { spot = record { row = 0; cell = 0 }; asked = Member 0 } in
    let x : Choice = slice_index_or xs i first in
    let in_range : i < length xs = omega arith in
    let size : c.size_of.result ≡ size_of c.args.table.now x = c.size_of.ensures in
    let left = next-size c.args.table.now xs i x in_range (get_or_default xs i first x in_range) ∙ ap (λ n. n * rest) (sym size) in
    let e = next-count c.choices.count c.size_of.result _ rest _ c.choices.invariant left in
    let low = mul-le-mul_left (c.choices.count * c.size_of.result) some in
    c.in-None.ensures (omega (arith, e, low, within))

pub choices-preserved : goal.choices-preserved
choices-preserved c =
    let xs = c.args.choices.now in
    let i = c.choices.choice-index in
    let rest = product_of (map (size_of c.args.table.now) (drop (i + 1) xs)) in
    let first : Choice = record { spot = record { row = 0; cell = 0 }; asked = Member 0 } in
    let x : Choice = slice_index_or xs i first in
    let in_range : i < length xs = omega arith in
    let size : c.size_of.result ≡ size_of c.args.table.now x = c.size_of.ensures in
    let left = next-size c.args.table.now xs i x in_range (get_or_default xs i first x in_range) ∙ ap (λ n. n * rest) (sym size) in
    ap (λ n. n * rest) c.in-Some.ensures.1 ∙ next-count c.choices.count c.size_of.result _ rest _ c.choices.invariant left
