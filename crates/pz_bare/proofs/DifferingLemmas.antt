-- Cells taken one after another leave fewer in which two levels may differ.
use Rattle.std.proofs.Common.{◌≡◌, ℕ, ◌+◌, ◌<◌, List, [], ◌∷◌, length, get_or, drop, drop-cons, add-one, ap, sym, ◌∙◌, subst, arith, refl, ext_get_or, get_or-set_same, get_or-set_other}
use Rattle.std.proofs.lemmas.Grind.{common_steps}
use Rattle.pz_sheet.specs.Changes.{with_cell, cell_there}
use Rattle.pz_sheet.specs.Grid.{Grid, SameSize}
use Rattle.pz_sheet.specs.Presence.{cell_of}
use Rattle.pz_bare.specs.Differing.{DifferWithin}

-- with the first of these cells taken, they differ in the others at most
with_first_taken : (grid other : Grid) (number : ℕ) (numbers : List ℕ) → number < length grid.cells → DifferWithin (number ∷ numbers) grid other → DifferWithin numbers (with_cell grid (cell_there other number)) other
with_first_taken grid other number numbers within rest index none = grind (arith, common_steps, rest index, none, get_or-set_same grid.cells number (cell_of other number) [] within, get_or-set_other grid.cells number index (cell_of other number) [])

pub with_one_taken : (grid other : Grid) (numbers : List ℕ) (at : ℕ) → at < length numbers → get_or numbers at 0 < length grid.cells → DifferWithin (drop at numbers) grid other
    → DifferWithin (drop (at + 1) numbers) (with_cell grid (cell_there other (get_or numbers at 0))) other
with_one_taken grid other numbers at low within rest =
    let parts : drop at numbers ≡ get_or numbers at 0 ∷ drop (at + 1) numbers = drop-cons numbers at 0 low ∙ ap (λ (k : ℕ). get_or numbers at 0 ∷ drop k numbers) (sym (add-one at)) in
    with_first_taken grid other (get_or numbers at 0) (drop (at + 1) numbers) within (subst (λ (l : List ℕ). DifferWithin l grid other) parts rest)

-- levels of one size that differ in none are one
pub same_without : (grid other : Grid) → SameSize grid other → length grid.cells ≡ length other.cells → DifferWithin [] grid other → grid ≡ other
same_without grid other size long none =
    let cells : grid.cells ≡ other.cells = ext_get_or [] grid.cells other.cells long (λ index within. none index refl) in
    grind arith
