use Rattle.std.proofs.Common.{◌≡◌, drop, fold, map}
use Rattle.pz_sheet.specs.Grid.{Grid}
use Rattle.pz_store.specs.Book.{AreNumbers}
use Rattle.pz_store.specs.Digest.{cell_word, digest_of, digest_with}
use Rattle.pz_store.proofs.levels.Levels.digest.Given as goal

-- what is left leads to the digest of the level
abbrev pub invariant-loop-number : goal.invariant-loop-number
invariant-loop-number l = (grid : Grid) → AreNumbers l.self.cells l.numbers grid → fold digest_with l.digest (map (cell_word l.self.objects) (drop l.number-index grid.cells)) ≡ digest_of l.self.objects grid
