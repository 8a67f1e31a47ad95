use Rattle.std.proofs.Common.{◌≡◌, ◌++◌, ◌-◌, flat_map}
use Rattle.std.specs.List.{range_with_len}
use Rattle.pz_stages.specs.Parts.{row_headings}
use Rattle.pz_stages.proofs.heading.put_headings.Given as goal

abbrev pub invariant-loop-y : goal.invariant-loop-y
invariant-loop-y l =
    l.texts.items ++ flat_map (row_headings l.objects l.level.grid) (range_with_len l.y (l.level.grid.height - l.y)) ≡ l.fn.texts.items ++ flat_map (row_headings l.objects l.level.grid) (range_with_len 0 l.level.grid.height)
