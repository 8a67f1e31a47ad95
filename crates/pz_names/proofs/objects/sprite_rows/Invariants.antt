use Rattle.std.proofs.Common.{◌≡◌, ◌++◌, ◌-◌, ◌≤◌, take, drop}
use Rattle.pz_names.specs.Objects.{sprite_rows}
use Rattle.pz_names.proofs.objects.sprite_rows.Given as goal

abbrev pub invariant-loop-count : goal.invariant-loop-count
invariant-loop-count l =
    (take l.count l.lines ++ sprite_rows (5 - l.count) (drop l.count l.lines) ≡ sprite_rows 5 l.lines) × (l.count ≤ 5)
