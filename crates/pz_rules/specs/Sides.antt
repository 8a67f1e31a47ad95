-- What runs before the movement, and what runs after it.
use Rattle.std.specs.Prelude.{Bool, [], ◌∷◌, ◌++◌, if◌then◌else◌}
use Rattle.pz_rules.specs.declared.sides.Sides.{Sides}

unfoldable pub side_added : {T : Type 0} → Sides T → Bool → T → Sides T
side_added sides is_late value =
    if is_late then record { early = sides.early; late = sides.late ++ value ∷ [] }
    else record { early = sides.early ++ value ∷ []; late = sides.late }
