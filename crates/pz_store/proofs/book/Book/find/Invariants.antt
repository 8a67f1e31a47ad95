use Rattle.std.proofs.Common.{◌≡◌, ℕ, ◌<◌, Some}
use Rattle.std.specs.Prelude.{slice_get}
use Rattle.pz_sheet.specs.Presence.{cell_of}
use Rattle.pz_store.proofs.book.Book.find.Given as goal

-- no number so far has the cell
abbrev pub invariant-loop-number : goal.invariant-loop-number
invariant-loop-number l = (number : ℕ) → number < l.number → slice_get l.self.cells number ≡ Some (cell_of l.level.grid l.index) → ⊥
