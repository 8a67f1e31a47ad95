use Rattle.pz_turn.proofs.Common.{◌≡◌, drop, places_of_rows}
use Rattle.pz_turn.proofs.Skipping.{following}
use Rattle.pz_turn.proofs.applying.take_places.Given as goal

abbrev pub invariant-loop-row : goal.invariant-loop-row
invariant-loop-row l =
    following l.lists.items (places_of_rows l.level.grid l.instance.scan (drop l.row-index l.row-items)) ≡ places_of_rows l.level.grid l.instance.scan l.instance.left
