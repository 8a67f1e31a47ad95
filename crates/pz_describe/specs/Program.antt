-- The program of a game: its blocks, each with the lines of the rules that its instances come from.
use Rattle.std.specs.Prelude.{Bool, true, false, List, [], ◌∷◌, ◌++◌, codes}
use Rattle.std.specs.List.{flat_map}
use Rattle.json.specs.Token.{Token, boolean, key}
use Rattle.pz_game.specs.declared.rule_line.RuleLine.{RuleLine}
use Rattle.pz_program.specs.declared.instance.Instance.{Instance}
use Rattle.pz_program.specs.declared.instance.Block.{Block}
use Rattle.pz_program.specs.declared.instance.Block.TheVariants.{One, Loop}
use Rattle.pz_program.specs.declared.instance.Program.{Program}
use Rattle.pz_trace.specs.SourceLines.{groups_of, line_of}
use Rattle.pz_describe.specs.Values.{array, numeral, object}

-- a group: for each instance the line of its rule
abbrev pub group_array : List RuleLine → List Instance → List Token
group_array rules group = array (flat_map (λ instance. numeral (line_of rules instance)) group)

abbrev pub is_loop : Block → Bool
is_loop (One group) = false
is_loop (Loop groups) = true

abbrev pub block_tokens : List RuleLine → Block → List Token
block_tokens rules block =
    object (key (codes "groups") ∷ array (flat_map (group_array rules) (groups_of block)) ++ key (codes "loop") ∷ boolean (is_loop block) ∷ [])

abbrev pub blocks_array : List RuleLine → List Block → List Token
blocks_array rules blocks = array (flat_map (block_tokens rules) blocks)

-- the blocks before the movement, and those after it
abbrev pub program_tokens : List RuleLine → Program → List Token
program_tokens rules program =
    object (key (codes "early") ∷ blocks_array rules program.early ++ key (codes "late") ∷ blocks_array rules program.late)
