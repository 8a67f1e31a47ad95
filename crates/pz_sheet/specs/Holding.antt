-- Sets of objects that a level looks for.
use Rattle.std.specs.Prelude.{◌≡◌, ℕ, List, ◌&&◌, nat_eq, nat_lt}
use Rattle.std.specs.List.{list_any}
use Rattle.pz_sets.specs.Sets.{member}
use Rattle.pz_sets.specs.declared.set.TheConstants.{CAPACITY}

-- a set has those of these objects that a game may have
abbrev pub IsSetFor : List ℕ → List ℕ → Type 0
IsSetFor objects set = (object : ℕ) → member set object ≡ (nat_lt object CAPACITY && list_any (nat_eq object) objects)
