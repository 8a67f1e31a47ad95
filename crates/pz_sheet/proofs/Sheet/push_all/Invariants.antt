use Rattle.pz_sheet.proofs.Common.{◌+◌, ◌*◌, Grid}
use Rattle.pz_sheet.proofs.PushLemmas.{ArePushedTo}
use Rattle.pz_sheet.proofs.Sheet.push_all.Given as goal

abbrev pub invariant-loop-y : goal.invariant-loop-y
invariant-loop-y g l = ArePushedTo l.players l.dir (l.y * l.initial.self.grid.width) l.initial.self.grid l.self.grid

-- of whatever level the rows before this one are pushed
abbrev pub invariant-loop-x : goal.invariant-loop-x
invariant-loop-x g l = (old : Grid) → ArePushedTo l.players l.dir (l.y * old.width) old l.initial.self.grid → ArePushedTo l.players l.dir (l.y * old.width + l.x) old l.self.grid
