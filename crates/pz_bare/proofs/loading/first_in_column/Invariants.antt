use Rattle.std.proofs.Common.{◌≡◌, map, None}
use Rattle.std.specs.List.{range_with_len}
use Rattle.pz_sheet.specs.Grid.{place_at}
use Rattle.pz_bare.specs.Loading.{first_of}
use Rattle.pz_bare.proofs.loading.first_in_column.Given as goal

abbrev pub invariant-loop-y : goal.invariant-loop-y
invariant-loop-y g l = first_of (map (λ y. place_at l.sheet.grid l.x y l.layer) (range_with_len 0 l.y)) ≡ None
