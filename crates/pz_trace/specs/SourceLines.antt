-- The lines of a source that a block comes from. An instance knows how many lines of RULES stand below its rule, so games with the
-- same rules share their program wherever the rules stand.
use Rattle.std.specs.Prelude.{ℕ, ◌-◌, Bool, false, List, [], ◌∷◌, ◌++◌, fold, length, map, slice_get, Option, Some, None, nat_eq, nat_lt, if◌then◌else◌}
use Rattle.pz_game.specs.declared.rule_line.RuleLine.{RuleLine}
use Rattle.pz_program.specs.declared.instance.Instance.{Instance}
use Rattle.pz_program.specs.declared.instance.Block.{Block}
use Rattle.pz_program.specs.declared.instance.Block.TheVariants.{One, Loop}

abbrev pub number_of : Option RuleLine → ℕ
number_of None = 0
number_of (Some line) = line.number

-- the number of the line of an instance's rule: the line of RULES below which as many stand as the instance says; 0 if there is none
abbrev pub line_of : List RuleLine → Instance → ℕ
line_of rules instance =
    if nat_lt instance.below (length rules) then number_of (slice_get rules (length rules - 1 - instance.below)) else 0

abbrev pub is_number : ℕ → Option ℕ → Bool
is_number number None = false
is_number number (Some other) = nat_eq other number

-- a line behind others, unless it is the last of them
abbrev pub told_once : List ℕ → ℕ → List ℕ
told_once lines line = if is_number line (slice_get lines (length lines - 1)) then lines else lines ++ line ∷ []

-- the lines of a group's instances, behind others
abbrev pub with_group : List RuleLine → List ℕ → List Instance → List ℕ
with_group rules lines group = fold told_once lines (map (line_of rules) group)

abbrev pub groups_of : Block → List (List Instance)
groups_of (One group) = group ∷ []
groups_of (Loop groups) = groups

-- the lines that a block comes from: those of its instances in order, where several of one line stand together that line once
unfoldable pub lines_of : List RuleLine → Block → List ℕ
lines_of rules block = fold (with_group rules) [] (groups_of block)
