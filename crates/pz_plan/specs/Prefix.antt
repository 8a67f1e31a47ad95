-- The prefixes of a rule.
use Rattle.std.specs.Prelude.{Bool, true, false, List, [], ◌∷◌}
use Rattle.std.specs.List.{list_any, flat_map}
use Rattle.pz_game.specs.declared.direction.Dir.{Dir}
use Rattle.pz_game.specs.declared.direction.Dir.TheVariants.{Up, Down, Left, Right}
use Rattle.pz_grammar.specs.declared.token.Class.TheVariants as class
use Rattle.pz_grammar.specs.declared.token.Lead.TheVariants as lead
use Rattle.pz_grammar.specs.declared.token.Token.{Token}
use Rattle.pz_grammar.specs.declared.token.Token.TheVariants as token
use Rattle.pz_grammar.specs.declared.rule.Rule.{Rule}
use Rattle.pz_base.specs.Lists.{firsts}
use Rattle.pz_game.specs.Direction.{same_dir}

abbrev pub is_late_word : Token → Bool
is_late_word token.Late = true
is_late_word _ = false

-- `late` stands before the rule
unfoldable pub is_late_rule : Rule → Bool
is_late_rule rule = list_any is_late_word rule.prefixes

-- rules.directions: the directions that a prefix stands for
abbrev pub prefix_directions : Token → List Dir
prefix_directions (token.Lead (lead.Toward Up)) = Up ∷ []
prefix_directions (token.Lead (lead.Toward Down)) = Down ∷ []
prefix_directions (token.Lead (lead.Toward Left)) = Left ∷ []
prefix_directions (token.Lead (lead.Toward Right)) = Right ∷ []
prefix_directions (token.Lead (lead.OneOf class.Horizontal)) = Left ∷ Right ∷ []
prefix_directions (token.Lead (lead.OneOf class.Vertical)) = Up ∷ Down ∷ []
prefix_directions (token.Lead (lead.OneOf class.Orthogonal)) = Up ∷ Down ∷ Left ∷ Right ∷ []
prefix_directions _ = []

-- the directions that the prefixes mention, each once, in the order of mention
unfoldable pub mentioned_directions : List Token → List Dir
mentioned_directions prefixes = firsts same_dir (flat_map prefix_directions prefixes)

-- none means all four
abbrev pub or_all : List Dir → List Dir
or_all [] = Up ∷ Down ∷ Left ∷ Right ∷ []
or_all (direction ∷ directions) = direction ∷ directions

-- rules.directions: the directions of a rule
unfoldable pub directions_of : Rule → List Dir
directions_of rule = or_all (mentioned_directions rule.prefixes)
