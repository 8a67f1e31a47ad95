use Rattle.std.proofs.Common.{◌/◌, ◌<◌, ◌≤◌, ℕ, List, length, Some, arith, ap, sym, ◌∙◌, subst}
use Rattle.std.specs.Option.{option_to_list}
use Rattle.pz_packed.proofs.PairedLemmas.{first_at, second_at, odd_at}
use Rattle.pz_packed.proofs.pairs.Pairs.get.Goals as goal

pub returns-then-index-eq0-clause-number : goal.returns-then-index-eq0-clause-number
returns-then-index-eq0-clause-number c =
    rw (← c.self.view_is) (first_at c.self.inside.bytes.items (option_to_list c.self.inside.odd) c.args.index c.index-byte.result.now (omega arith) c.index-byte.ensures c.if-index-eq0.true)

pub returns-else-index-eq0-clause-number : goal.returns-else-index-eq0-clause-number
returns-else-index-eq0-clause-number c =
    rw (← c.self.view_is) (second_at c.self.inside.bytes.items (option_to_list c.self.inside.odd) c.args.index c.index-byte.result.now (omega arith) c.index-byte.ensures c.if-index-eq0.false)

pub returns-else-index-len-clause-number : goal.returns-else-index-len-clause-number
returns-else-index-len-clause-number c =
    let past : length c.self.inside.bytes.items ≤ c.args.index / 2 = omega arith in
    let low = subst (λ (all : List ℕ). c.args.index < length all) (sym c.self.view_is) c.requires in
    rw (← c.self.view_is) (odd_at c.self.inside.bytes.items c.self.inside.odd c.args.index past low ∙ ap (λ (n : ℕ). Some n) (sym c.unwrap_or.ensures))
