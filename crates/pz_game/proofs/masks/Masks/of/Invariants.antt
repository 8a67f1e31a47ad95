use Rattle.std.proofs.Common.{take}
use Rattle.std.specs.List.{All}
use Rattle.pz_game.specs.Masks.{IsLow, AreMasksOf}
use Rattle.pz_game.proofs.masks.Masks.of.Given as goal

abbrev pub invariant-loop-item : goal.invariant-loop-item
invariant-loop-item l = All IsLow l.items → AreMasksOf (take l.item-index l.items) l.masks
