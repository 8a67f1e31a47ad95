use Rattle.std.proofs.Common.{◌+◌, ◌∷◌, [], ◌++◌, map, drop, sym, ◌∙◌, ap, append_assoc}
use Rattle.pz_names.specs.Meaning.{meaning_by}
use Rattle.pz_names.specs.declared.legend.Definition.{Definition}
use Rattle.pz_base.proofs.ListLemmas.{drop-next}
use Rattle.pz_names.proofs.meaning.add_definitions.Goals as goal

pub loop-definition-preserved : goal.loop-definition-preserved
loop-definition-preserved c =
    let xs = c.args.definitions.now in
    let i = c.loop-definition.definition-index in
    let x = c.definition-item.result in
    let items = c.loop-definition.meanings.items in
    let meant = λ (d : Definition). meaning_by c.args.names.now d.said in
    let rest = map meant (drop (i + 1) xs) in
    ap (λ m. m ++ rest) c.in_ok-add_definition.ensures
    ∙ (append_assoc items (meant x ∷ []) rest ∙ (ap (λ ds. items ++ map meant ds) (sym (drop-next xs i x c.loop-definition-test.true c.definition-item.is)) ∙ c.loop-definition.invariant))
