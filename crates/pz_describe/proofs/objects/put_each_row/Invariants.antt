use Rattle.std.proofs.Common.{◌≡◌, ◌++◌, drop, flat_map, map}
use Rattle.pz_describe.specs.Values.{text}
use Rattle.pz_describe.proofs.objects.put_each_row.Given as goal

abbrev pub invariant-loop-row : goal.invariant-loop-row
invariant-loop-row l = l.page ++ flat_map text (map (λ row. row.text) (drop l.row-index l.rows)) ≡ l.fn.page ++ flat_map text (map (λ row. row.text) l.rows)
