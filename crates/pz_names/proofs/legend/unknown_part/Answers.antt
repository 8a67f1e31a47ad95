use Rattle.std.proofs.Common.{◌≡◌, take, refl, sym, ◌∙◌}
use Rattle.std.specs.Prelude.{Some, None}
use Rattle.pz_names.specs.Legend.{line_at, speaks_of_unknown}
use Rattle.pz_base.proofs.FaultLemmas.{first_fault-hit, first_fault-pass}
use Rattle.pz_base.specs.declared.fault.Code.TheVariants as code
use Rattle.pz_names.proofs.legend.unknown_part.Goals as goal

pub returns-then-speaks_beyond-clause-first : goal.returns-then-speaks_beyond-clause-first
returns-then-speaks_beyond-clause-first c =
    let xs = c.args.definitions.now in
    let i = c.loop-definition.definition-index in
    let x = c.definition-item.result in
    let beyond = sym c.speaks_beyond.ensures ∙ c.if-speaks_beyond.true in
    let named : speaks_of_unknown c.args.names.now (take i xs) x ≡ Some code.Unknown = rw beyond refl in
    sym (first_fault-hit line_at (speaks_of_unknown c.args.names.now) xs i x code.Unknown c.loop-definition-test.true c.definition-item.is named) ∙ c.loop-definition.invariant

pub loop-definition-preserved : goal.loop-definition-preserved
loop-definition-preserved c =
    let xs = c.args.definitions.now in
    let i = c.loop-definition.definition-index in
    let x = c.definition-item.result in
    let beyond = sym c.speaks_beyond.ensures ∙ c.if-speaks_beyond.false in
    let passed : speaks_of_unknown c.args.names.now (take i xs) x ≡ None = rw beyond refl in
    first_fault-pass line_at (speaks_of_unknown c.args.names.now) xs i x c.loop-definition-test.true c.definition-item.is passed ∙ c.loop-definition.invariant
