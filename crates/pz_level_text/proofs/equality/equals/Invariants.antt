use Rattle.pz_level_text.proofs.Common.{◌≡◌, ◌*◌, length, equals_recorded}
use Rattle.pz_level_text.proofs.Ordered.{same_from}
use Rattle.pz_level_text.proofs.equality.equals.Given as goal

abbrev pub invariant-loop-number : goal.invariant-loop-number
invariant-loop-number l = record {
  size : length l.recorded ≡ l.level.grid.width * l.level.grid.height;
  rest : same_from l.game l.order l.level.grid l.recorded l.number ≡ equals_recorded l.game l.order l.level.grid l.recorded;
  objects : l.naming.objects ≡ l.game.objects;
  recorded : l.naming.recorded ≡ l.recorded;
}
