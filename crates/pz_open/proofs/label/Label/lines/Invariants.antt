use Rattle.std.proofs.Common.{◌≡◌, flat_map, take}
use Rattle.pz_lines.specs.Lines.{item_line}
use Rattle.pz_open.proofs.label.Label.lines.Given as goal

-- the lines are those of the items that were written
abbrev pub invariant-loop-item : goal.invariant-loop-item
invariant-loop-item l = l.lines.items ≡ flat_map (item_line l.self.number l.self.name l.frames) (take l.item-index l.items)
