use Rattle.std.proofs.Common.{◌<◌, ◌+◌, ◌++◌, ℕ, List, [], ◌∷◌, length, map, drop, ap, sym, ◌∙◌, append_assoc, arith}
use Rattle.std.proofs.lemmas.List.{at_drop_more, append-nil, drop_all}
use Rattle.pz_names.specs.declared.meaning.Meaning.{Meaning}
use Rattle.pz_names.specs.declared.meaning.Meaning.TheVariants.{Itself}
use Rattle.pz_names.proofs.meaning.add_object.Goals as goal

pub loop-name-preserved : goal.loop-name-preserved
loop-name-preserved c =
    let names = c.args.names.now in
    let i = c.loop-name._name-index in
    let items = c.loop-name.meanings.items in
    let said : List ℕ → Meaning = λ name. Itself c.args.place c.args.first in
    let rest = map said (drop (i + 1) names) in
    let in_range : i < length names = omega arith in
    ap (λ m. m ++ rest) c.in_ok-push.ensures.items
    ∙ (append_assoc items (said [] ∷ []) rest ∙ (ap (λ m. items ++ m) (sym (at_drop_more (map said) names i [] in_range)) ∙ c.loop-name.invariant))

pub returns : goal.returns
returns c =
    let items = c.loop-name.meanings.items in
    let said : List ℕ → Meaning = λ name. Itself c.args.place c.args.first in
    sym (append-nil items) ∙ (ap (λ l. items ++ map said l) (sym (drop_all c.loop-name._name-index c.args.names.now c.loop-name-test.false)) ∙ c.loop-name.invariant)
