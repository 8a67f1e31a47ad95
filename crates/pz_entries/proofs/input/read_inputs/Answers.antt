use Rattle.std.proofs.Common.{rules, refl, arith, ◌<◌, ◌≤◌, length}
use Rattle.serde_json.specs.View.{view as data_of}
use Rattle.pz_entries.proofs.InputLists.{inputs_of-none, inputs_of-many, inputs_of-few}
use Rattle.pz_entries.proofs.input.read_inputs.Goals as goal

pub returns-in_default : goal.returns-in_default
returns-in_default c = let none = inputs_of-none (data_of c.args.value.now) (search rules) in rw none refl

pub returns-then-len-gt-MOST_INPUTS : goal.returns-then-len-gt-MOST_INPUTS
returns-then-len-gt-MOST_INPUTS c =
    let many : 65536 < length c.in-Some.list.now.items = omega (arith, c.len.ensures, c.if-len-gt-MOST_INPUTS.true, c.in-Some.list.now.ok.0) in
    let none = inputs_of-many (data_of c.args.value.now) c.in-Some.list.now.items (search rules) many in
    rw none refl

pub returns : goal.returns
returns c =
    let few : length c.deref.result.now ≤ 65536 = search rules in
    let is = inputs_of-few (data_of c.args.value.now) c.deref.result.now (search rules) few in
    rw is c.read_each.ensures
