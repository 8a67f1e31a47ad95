use Rattle.std.proofs.Common.{◌≡◌, ℕ, ◌+◌, ◌<◌, true, length, reverse, Some}
use Rattle.std.specs.Prelude.{slice_get}
use Rattle.pz_sheet.specs.Grid.{Grid}
use Rattle.pz_solve.specs.Found.{Found, IsSearch}
use Rattle.pz_solve.specs.Moves.{Wins}
use Rattle.pz_solve.specs.Winning.{Moves, wins}
use Rattle.pz_solve.proofs.path.inputs_to.Given as goal

-- the presses so far win from the level that they go back to
abbrev pub invariant-links : goal.invariant-links
invariant-links l = record {
  within : l.at < length l.search;
  leads : (moves : Moves) (start : Grid) (tried : ℕ) (here : Found) → IsSearch moves start l.search tried → slice_get l.search l.index ≡ Some here → moves here.grid l.fn.last ≡ Wins →
      (f : Found) → slice_get l.search l.at ≡ Some f → (wins moves (reverse l.inputs.items) f.grid ≡ true) × (length l.inputs.items + f.depth ≡ here.depth + 1);
}

abbrev pub decreases-links : goal.decreases-links
decreases-links l = l.at
