-- Where the objects of layers head, as a set of numbers: each layer has five, one for each direction; 25 layers have theirs in one word.
use Rattle.std.specs.Prelude.{◌≡◌, ℕ, ◌+◌, ◌*◌, ◌/◌, ◌%◌, ◌≤◌, List, Bool, false, Option, Some, None, if◌then◌else◌}
use Rattle.pz_sets.specs.Sets.{member}
use Rattle.pz_game.specs.declared.direction.Dir.{Dir}
use Rattle.pz_game.specs.declared.direction.Dir.TheVariants.{Up, Down, Left, Right, Action}
use Rattle.pz_game.specs.Direction.{same_dir}

-- a heading is this direction
abbrev pub is_toward : Option Dir → Dir → Bool
is_toward None dir = false
is_toward (Some heading) dir = same_dir heading dir

-- the place of a direction in a layer's field of five
abbrev pub dir_bit : Dir → ℕ
dir_bit Up = 0
dir_bit Down = 1
dir_bit Left = 2
dir_bit Right = 3
dir_bit Action = 4

-- the number of a layer's direction
abbrev pub flag : ℕ → Dir → ℕ
flag layer dir = 128 * (layer / 25) + 5 * (layer % 25) + dir_bit dir

-- only the first 125 numbers of a word are directions of layers
abbrev pub IsProper : List ℕ → Type 0
IsProper words = (number : ℕ) → 125 ≤ number % 128 → member words number ≡ false

-- a layer heads in a direction
abbrev pub heads : List ℕ → ℕ → Dir → Bool
heads words layer dir = member words (flag layer dir)

-- the first of the directions that a test picks
abbrev pub first_of : (Dir → Bool) → Option Dir
first_of test =
    if test Up then Some Up else if test Down then Some Down else if test Left then Some Left else if test Right then Some Right else if test Action then Some Action else None

-- where a layer heads
abbrev pub heading_in : List ℕ → ℕ → Option Dir
heading_in words layer = first_of (heads words layer)
