-- The instances of a plan.
use Rattle.std.specs.Prelude.{ℕ, Bool, not, ◌==◌, List, [], Option, Some, None, map, filter, slice_get, unwrap_or, length, if◌then◌else◌}
use Rattle.std.specs.List.{list_any, list_all, flat_map}
use Rattle.std.specs.Option.{option_map_or}
use Rattle.pz_game.specs.declared.denotation.Denotation.{Denotation}
use Rattle.pz_game.specs.declared.direction.Dir.{Dir}
use Rattle.pz_game.specs.declared.direction.Dir.TheVariants.{Up}
use Rattle.pz_instances.specs.declared.exclusion.Role.TheVariants.{Asked}
use Rattle.pz_game.specs.declared.pattern.Item.{Item}
use Rattle.pz_game.specs.declared.pattern.Word.{Word}
use Rattle.pz_game.specs.declared.pattern.Word.TheVariants.{Present, Still, Toward, Absent}
use Rattle.pz_program.specs.declared.instance.Instance.{Instance}
use Rattle.pz_rules.specs.declared.plan_instances.Pick.{Pick}
use Rattle.pz_rules.specs.declared.plan_instances.Pick.TheVariants as pick
use Rattle.pz_grammar.specs.declared.token.Lead.{Lead}
use Rattle.pz_grammar.specs.declared.token.Lead.TheVariants as lead
use Rattle.pz_plan.specs.declared.plan.Asked.TheVariants as asked
use Rattle.pz_plan.specs.declared.plan.Choice.{Choice}
use Rattle.pz_plan.specs.declared.plan.Plan.{Plan}
use Rattle.pz_plan.specs.declared.plan.PlanRow.{PlanRow}
use Rattle.pz_plan.specs.declared.plan.Term.{Term}
use Rattle.pz_plan.specs.declared.plan.TermName.{TermName}
use Rattle.pz_plan.specs.declared.plan.TermName.TheVariants as name
use Rattle.pz_instances.specs.Equal.{same_instance}
use Rattle.pz_instances.specs.Exclusion.{has_impossible}
use Rattle.pz_base.specs.Lists.{product, firsts, with_new}
use Rattle.pz_game.specs.Pattern.{RuleRow}
use Rattle.pz_rules.specs.Turning.{turned_direction, class_directions}

-- the members of the name of this number
abbrev pub members_at : List Denotation → ℕ → List ℕ
members_at table property = option_map_or (λ d. d.members) (slice_get table property) []

-- what may be picked at a choice, in order
unfoldable pub options_of : List Denotation → Dir → Choice → List Pick
options_of table direction choice =
    elim choice.asked [
      | asked.Member property ↦ map pick.Object (members_at table property)
      | asked.Direction class on ↦ map pick.Toward (class_directions direction class)
    ]

abbrev pub picked_object : Option Pick → ℕ
picked_object (Some (pick.Object object)) = object
picked_object _ = 0

abbrev pub picked_word : Option Pick → Word
picked_word (Some (pick.Toward direction)) = Toward direction
picked_word _ = Present

abbrev pub object_of : List Pick → TermName → ℕ
object_of picks (name.Object object) = object
object_of picks (name.Chosen k) = picked_object (slice_get picks k)

-- what a word says of its object in a rule of this direction
abbrev pub meaning_of : Dir → List Pick → Option (Lead ℕ) → Word
meaning_of direction picks None = Present
meaning_of direction picks (Some lead.No) = Absent
meaning_of direction picks (Some lead.Stationary) = Still
meaning_of direction picks (Some (lead.Toward toward)) = Toward toward
meaning_of direction picks (Some (lead.Turned turn)) = Toward (turned_direction direction turn)
meaning_of direction picks (Some (lead.OneOf k)) = picked_word (slice_get picks k)

abbrev pub layer_of : List ℕ → ℕ → ℕ
layer_of layers object = unwrap_or (slice_get layers object) 0

unfoldable pub item_of : List ℕ → Dir → List Pick → Term → Item
item_of layers direction picks term =
    let object = object_of picks term.name in
    record { object = object; layer = layer_of layers object; word = meaning_of direction picks term.lead }

unfoldable pub cell_of : List ℕ → Dir → List Pick → List Term → List Item
cell_of layers direction picks terms = map (item_of layers direction picks) terms

unfoldable pub row_of : List ℕ → Dir → List Pick → PlanRow Term → RuleRow
row_of layers direction picks row = record { cells = map (cell_of layers direction picks) row.cells; gap_at = row.gap_at }

unfoldable pub rows_of : List ℕ → Dir → List Pick → List (PlanRow Term) → List RuleRow
rows_of layers direction picks rows = map (row_of layers direction picks) rows

abbrev pub is_one_cell : PlanRow Term → Bool
is_one_cell row = length row.cells == 1

-- expand.scan: a rule whose rows all have one cell is scanned upwards
unfoldable pub scan_of : Plan → Dir → Dir
scan_of plan direction = if list_all is_one_cell plan.left then Up else direction

-- the instance of a rule below which so many lines of RULES stand
unfoldable pub instance_of : List ℕ → ℕ → Plan → Dir → List Pick → Instance
instance_of layers below plan direction picks =
    record {
      scan = scan_of plan direction;
      left = rows_of layers direction picks plan.left;
      right = rows_of layers direction picks plan.right;
      commands = plan.commands;
      below = below;
    }

-- expand.dropped: some level can be as the left of an instance says
unfoldable pub is_possible : Instance → Bool
is_possible instance = not (list_any (has_impossible Asked) instance.left)

-- expand.pairs: the lists of picks for one direction, the first choice varying slowest
unfoldable pub picks_of : List Denotation → Plan → Dir → List (List Pick)
picks_of table plan direction = product (map (options_of table direction) plan.choices)

-- the instances of one direction, the impossible ones dropped
unfoldable pub possible_of : List Denotation → List ℕ → ℕ → Plan → Dir → List Instance
possible_of table layers below plan direction = filter is_possible (map (instance_of layers below plan direction) (picks_of table plan direction))

-- expand.pairs: the instances of a rule: the possible ones, directions varying slowest, and of equal ones the first
unfoldable pub instances_of : List Denotation → List ℕ → ℕ → Plan → List Instance
instances_of table layers below plan = firsts same_instance (flat_map (possible_of table layers below plan) plan.directions)

-- the instances that are kept, after the one of these picks
unfoldable pub kept_after : List ℕ → ℕ → Plan → Dir → List Instance → List Pick → List Instance
kept_after layers below plan direction kept picks =
    let instance = instance_of layers below plan direction picks in
    if is_possible instance then with_new same_instance kept instance else kept
