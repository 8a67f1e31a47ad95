use Rattle.std.proofs.Common.{◌≡◌, ◌≢◌, ℕ, ◌<◌, zero-add, [], length, ap, sym, ◌∙◌, arith}
use Rattle.std.specs.Prelude.{None, Some}
use Rattle.pz_base.specs.Fault.{first_fault}
use Rattle.pz_base.proofs.FaultLemmas.{or_else-later}
use Rattle.pz_source.specs.Layers.{layer_lines, layers_of, fault_of_layers, name_line_at, misplaces, lies_nowhere, layer_of, holds, entry_at}
use Rattle.pz_source.proofs.LayerLemmas.{nowhere-same, nowhere-none}
use Rattle.pz_names.proofs.ValueLemmas.{table_values}
use Rattle.pz_source.proofs.FoundLemmas.{placed-given, placed-hit}
use Rattle.pz_source.proofs.layers.read_layers.Goals as goal

pub returns-in-Some-missing_layer : goal.returns-in-Some-missing_layer
returns-in-Some-missing_layer c =
    let objects = c.args.objects.now in
    let h = holds c.args.names.now c.args.values.now in
    let layers = layer_lines c.args.lines.now in
    let misplaced = first_fault name_line_at (misplaces c.args.names.now c.args.values.now) [] layers in
    let nowhere = first_fault name_line_at (lies_nowhere (layer_of h layers)) [] objects in
    let read : c.as_slice-layers.result.now ≡ layers = c.as_slice-layers.ensures.value ∙ c.in_ok-layers.ensures in
    let placed : misplaced ≡ None = ap (first_fault name_line_at (misplaces c.args.names.now c.args.values.now) []) (sym read) ∙ sym c.in_default.ensures in
    let each : (k : ℕ) → k < length objects → entry_at c.in_ok-table.table.items k ≡ layer_of h layers k = λ k lt. c.in_ok-table.ensures.each k lt ∙ ap (λ ls. layer_of h ls k) read in
    let listed : first_fault name_line_at (lies_nowhere (entry_at c.as_slice.result.now)) [] objects ≡ nowhere =
    ap (λ t. first_fault name_line_at (lies_nowhere (entry_at t)) [] objects) c.as_slice.ensures.value
    ∙ nowhere-same (entry_at c.in_ok-table.table.items) (layer_of h layers) [] objects (λ k lt. each k (omega arith)) in
    let hit : fault_of_layers objects c.args.names.now c.args.values.now c.args.lines.now ≡ Some c.in-Some-missing_layer.fault = or_else-later misplaced nowhere placed ∙ (sym listed ∙ sym c.in-Some-missing_layer.ensures.first) in
    placed-hit (fault_of_layers objects c.args.names.now c.args.values.now c.args.lines.now) (layers_of objects c.args.names.now c.args.values.now c.args.lines.now) (length layers) c.in-Some-missing_layer.fault hit

pub returns : goal.returns
returns c =
    let objects = c.args.objects.now in
    let h = holds c.args.names.now c.args.values.now in
    let layers = layer_lines c.args.lines.now in
    let misplaced = first_fault name_line_at (misplaces c.args.names.now c.args.values.now) [] layers in
    let nowhere = first_fault name_line_at (lies_nowhere (layer_of h layers)) [] objects in
    let read : c.as_slice-layers.result.now ≡ layers = c.as_slice-layers.ensures.value ∙ c.in_ok-layers.ensures in
    let placed : misplaced ≡ None = ap (first_fault name_line_at (misplaces c.args.names.now c.args.values.now) []) (sym read) ∙ sym c.in_default.ensures in
    let each : (k : ℕ) → k < length objects → entry_at c.in_ok-table.table.items k ≡ layer_of h layers k = λ k lt. c.in_ok-table.ensures.each k lt ∙ ap (λ ls. layer_of h ls k) read in
    let listed : first_fault name_line_at (lies_nowhere (entry_at c.as_slice.result.now)) [] objects ≡ nowhere =
    ap (λ t. first_fault name_line_at (lies_nowhere (entry_at t)) [] objects) c.as_slice.ensures.value
    ∙ nowhere-same (entry_at c.in_ok-table.table.items) (layer_of h layers) [] objects (λ k lt. each k (omega arith)) in
    let none : nowhere ≡ None = sym (c.in_default-missing_layer.ensures.first ∙ listed) in
    let some : (k : ℕ) → k < length objects → layer_of h layers k ≢ None = λ k lt e. nowhere-none (layer_of h layers) [] objects none k lt (ap (layer_of h layers) (zero-add k) ∙ e) in
    let clear : fault_of_layers objects c.args.names.now c.args.values.now c.args.lines.now ≡ None = or_else-later misplaced nowhere placed ∙ none in
    placed-given (fault_of_layers objects c.args.names.now c.args.values.now c.args.lines.now) (layers_of objects c.args.names.now c.args.values.now c.args.lines.now) c.in_ok-placed.placed.items (length layers) (length c.as_slice-layers.result.now) clear
    (c.in_ok-placed.ensures ∙ table_values (layer_of h layers) (length objects) c.in_ok-table.table.items c.in_ok-table.ensures.count some each) (ap length read)
