use Rattle.std.proofs.Common.{◌≡◌, ◌*◌, map, ap, sym, ◌∙◌, arith}
use Rattle.pz_base.specs.Lists.{product_of}
use Rattle.pz_rules.specs.Counting.{size_of}
use Rattle.pz_rules.proofs.CountingLemmas.{product-empty, none-empty}
use Rattle.pz_rules.proofs.counting.pairs_within.Goals as goal

pub returns-then-has_empty : goal.returns-then-has_empty
returns-then-has_empty c =
    let none = product-empty c.args.table.now c.args.choices.now (sym c.has_empty.ensures ∙ c.if-has_empty.true) in
    let whole : c.args.start * product_of (map (size_of c.args.table.now) c.args.choices.now) ≡ 0 = ap (λ n. c.args.start * n) none ∙ omega arith in
    (omega (arith, whole), sym whole)

pub product_within-requires : goal.product_within-requires
product_within-requires c = record { sizes = none-empty c.args.table.now c.args.choices.now (sym c.has_empty.ensures ∙ c.if-has_empty.false) }
