use Rattle.std.proofs.Common.{◌≡◌, ◌++◌, ◌-◌, flat_map}
use Rattle.std.specs.List.{range_with_len}
use Rattle.pz_stages.specs.Parts.{cell_headings}
use Rattle.pz_stages.proofs.heading.put_row.Given as goal

abbrev pub invariant-loop-x : goal.invariant-loop-x
invariant-loop-x l =
    l.texts.items ++ flat_map (cell_headings l.objects l.level.grid l.y) (range_with_len l.x (l.level.grid.width - l.x)) ≡ l.fn.texts.items ++ flat_map (cell_headings l.objects l.level.grid l.y) (range_with_len 0 l.level.grid.width)
