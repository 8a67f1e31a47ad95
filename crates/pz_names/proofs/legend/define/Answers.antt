use Rattle.std.proofs.Common.{◌++◌, map, sym, ◌∙◌, ap}
use Rattle.std.proofs.lemmas.List.{append-nil}
use Rattle.pz_names.specs.declared.legend.Definition.{Definition}
use Rattle.pz_names.proofs.LegendLemmas.{definitions_of-blank}
use Rattle.pz_names.proofs.legend.define.Goals as goal

pub returns-then-is_blank-clause-definitions : goal.returns-then-is_blank-clause-definitions
returns-then-is_blank-clause-definitions c = λ _.
    let items = c.args.definitions.now.items in
    let none = definitions_of-blank c.args.line.now (sym c.is_blank.ensures ∙ c.if-is_blank.true) in
    sym (ap (λ ds. items ++ ds) none ∙ append-nil items)

pub returns-then-is_blank-clause-noted : goal.returns-then-is_blank-clause-noted
returns-then-is_blank-clause-noted c = λ _.
    let names = c.args.names.now in
    let none = definitions_of-blank c.args.line.now (sym c.is_blank.ensures ∙ c.if-is_blank.true) in
    sym (ap (λ ds. names ++ map (λ (d : Definition). d.name) ds) none ∙ append-nil names)
