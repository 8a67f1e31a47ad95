use Rattle.std.proofs.Common.{◌≡◌, ℕ, Some, length}
use Rattle.std.specs.Prelude.{slice_get}
use Rattle.pz_sheet.specs.Grid.{Grid, SameSize}
use Rattle.pz_store.specs.Book.{AreNumbers}
use Rattle.pz_store.specs.Digest.{digest_of}
use Rattle.pz_solve.proofs.Knowing.{IsPlaceOf, IsUpTo, rank}
use Rattle.pz_solve.proofs.search.is_new.Given as goal

-- the level is behind no place that is left
abbrev pub invariant-places : goal.invariant-places
invariant-places l = record {
  placed : IsPlaceOf (length l.levels.grids) l.index l.digest l.at;
  left : (grid : Grid) → SameSize l.levels.frame grid → AreNumbers l.levels.cells l.numbers grid → l.digest ≡ digest_of l.levels.objects grid → (place : ℕ) → slice_get l.levels.grids place ≡ Some grid → IsUpTo l.at place;
}

abbrev pub decreases-places : goal.decreases-places
decreases-places l = rank l.at
