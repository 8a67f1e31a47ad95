use Rattle.std.proofs.Common.{rules, sym, ◌∙◌}
use Rattle.std.proofs.lemmas.Slice.Eq.{slice_eq-Decides}
use Rattle.pz_rules.proofs.patterns.has_items.Goals as goal

-- equal items are the same, so equal lists of them are
pub returns : goal.returns
returns c =
    let decided = slice_eq-Decides (λ a b. (search rules, search rules)) c.items.result.now c.args.items.now c.eq.result c.eq.ensures in
    (λ equal. sym c.items.ensures ∙ decided.0 equal, λ same. decided.1 (c.items.ensures ∙ same))
