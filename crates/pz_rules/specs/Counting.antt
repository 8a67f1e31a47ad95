-- How many pairs of a direction and a list of picks a plan has.
use Rattle.std.specs.Prelude.{ℕ, ◌*◌, List, length, map, slice_get}
use Rattle.std.specs.Option.{option_map_or}
use Rattle.pz_grammar.specs.declared.token.Class.{Class}
use Rattle.pz_grammar.specs.declared.token.Class.TheVariants.{Moving, Orthogonal}
use Rattle.pz_game.specs.declared.denotation.Denotation.{Denotation}
use Rattle.pz_base.specs.Lists.{product_of}
use Rattle.pz_plan.specs.declared.plan.Asked.TheVariants.{Member, Direction}
use Rattle.pz_plan.specs.declared.plan.Choice.{Choice}
use Rattle.pz_plan.specs.declared.plan.Plan.{Plan}

-- how many directions a word has
abbrev pub class_size : Class → ℕ
class_size Moving = 5
class_size Orthogonal = 4
class_size _ = 2

-- how many picks a choice has
unfoldable pub size_of : List Denotation → Choice → ℕ
size_of table choice =
    elim choice.asked [
      | Member property ↦ option_map_or (λ denotation. length denotation.members) (slice_get table property) 0
      | Direction class on ↦ class_size class
    ]

-- checks.too-many-rules
unfoldable pub pair_count : List Denotation → Plan → ℕ
pair_count table plan = length plan.directions * product_of (map (size_of table) plan.choices)
