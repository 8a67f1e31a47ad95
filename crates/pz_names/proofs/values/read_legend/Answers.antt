use Rattle.std.proofs.Common.{◌≡◌, [], ap, sym, subst, ◌∙◌}
use Rattle.std.specs.Prelude.{None, Ok, IfOk}
use Rattle.pz_base.specs.Fault.{first_fault, or_else, unless, and_then}
use Rattle.pz_base.proofs.FaultLemmas.{or_else-later}
use Rattle.pz_names.specs.Objects.{object_names}
use Rattle.pz_names.specs.Legend.{line_number, misnames, definitions_of}
use Rattle.pz_names.specs.Denotation.{values_of}
use Rattle.pz_names.specs.Values.{meanings_of_source, fault_of_definitions, fault_of_legend}
use Rattle.pz_names.proofs.ObjectLemmas.{found-none, found-later}
use Rattle.pz_names.proofs.values.read_legend.Goals as goal

pub returns-clause-denoted : goal.returns-clause-denoted
returns-clause-denoted c =
    let objects = c.args.objects.now in
    let lines = c.args.lines.now in
    let here = first_fault line_number (misnames c.args.names.now) [] lines in
    let found : Ok c.in-Ok.found.items ≡ unless here (Ok (definitions_of lines)) = ap (and_then (λ found. Ok found.items)) (sym c.in-Ok.is) ∙ c.in_ok-found.ensures.read in
    let none : first_fault line_number (misnames (object_names objects)) [] lines ≡ None =
    ap (λ names. first_fault line_number (misnames names) [] lines) (sym c.requires) ∙ found-none here c.in-Ok.found.items (definitions_of lines) found in
    let read : c.as_slice.result.now ≡ definitions_of lines = c.as_slice.ensures.value ∙ found-later here c.in-Ok.found.items (definitions_of lines) found in
    let fault : fault_of_legend objects lines ≡ fault_of_definitions objects (definitions_of lines) =
    or_else-later (first_fault line_number (misnames (object_names objects)) [] lines) (fault_of_definitions objects (definitions_of lines)) none in
    let denoted =
    subst (λ ds. IfOk c.denoted.result (λ read. and_then (λ values. Ok values.items) read ≡ unless (fault_of_definitions objects ds) (Ok (values_of (meanings_of_source objects ds)))))
    read c.denoted.ensures.denoted in
    subst (λ fault. IfOk c.denoted.result (λ read. and_then (λ values. Ok values.items) read ≡ unless fault (Ok (values_of (meanings_of_source objects (definitions_of lines))))))
    (sym fault) denoted
