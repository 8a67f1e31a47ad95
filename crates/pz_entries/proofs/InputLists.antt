-- The inputs that a list gives, case by case.
use Rattle.std.proofs.Common.{◌≡◌, ◌<◌, ◌≤◌, List, length, map, Some, None, refl, ap}
use Rattle.std.proofs.lemmas.Bool.{lt-ltb, le-ltb}
use Rattle.std.proofs.lemmas.List.{length-map}
use Rattle.serde_json.specs.Data.{Data}
use Rattle.serde_json.specs.declared.value.Value.{Value}
use Rattle.serde_json.specs.Find.{as_array}
use Rattle.serde_json.specs.View.{items_view, view as data_of}
use Rattle.pz_base.specs.Each.{all_some}
use Rattle.pz_entries.specs.Input.{input_of, inputs_of}
use Rattle.pz_entries.proofs.Gather.{list_of-array, list_of-none, map-map}

pub inputs_of-none : (d : Data) → None ≡ as_array d → inputs_of d ≡ None
unfolding inputs_of
inputs_of-none d e = rw (list_of-none d e) refl

pub inputs_of-many : (d : Data) (vs : List Value) → Some (items_view vs) ≡ as_array d → 65536 < length vs → inputs_of d ≡ None
unfolding inputs_of
inputs_of-many d vs e h = rw (list_of-array d vs e, length-map vs data_of, lt-ltb 65536 (length vs) h) refl

pub inputs_of-few : (d : Data) (vs : List Value) → Some (items_view vs) ≡ as_array d → length vs ≤ 65536 → inputs_of d ≡ all_some (map (λ v. input_of (data_of v)) vs)
unfolding inputs_of
inputs_of-few d vs e h = rw (list_of-array d vs e, length-map vs data_of, le-ltb 65536 (length vs) h) (ap all_some (map-map input_of data_of vs))
