-- Cells in words are the same if their words have the same numbers, and levels if none of their cells differ.
use Rattle.pz_sheet.proofs.Common.{Layering, ◌≡◌, ℕ, ◌<◌, [], Option, Some, None, Bool, true, false, not, length, ap, sym, subst, refl, arith, IsTrue, ◌↔◌, is_some, ext_get_or, All, flag, each_number, Cell, pieces_of_cell, IsSound, AreAlike, same_cell, cell_alike, objects_alike, heads_alike, same_cell_is, same_cell_self, differ_in, Grid, SameSize, cell_of, IsNext}

pub seen_alike : (N : ℕ) (layering : Layering) (cell other : Cell N) → IsSound layering cell → IsSound layering other → AreAlike cell other → pieces_of_cell layering cell ≡ pieces_of_cell layering other
seen_alike N layering cell other sound sound_other same =
    cell_alike layering.depth layering.layers other.objects other.movement cell.objects cell.movement same.0 (λ layer dir. same.1 (flag layer dir))

pub alike_seen : (N : ℕ) (layering : Layering) (cell other : Cell N) → All (λ l. l < layering.depth) layering.layers → IsSound layering cell → IsSound layering other → pieces_of_cell layering cell ≡ pieces_of_cell layering other → AreAlike cell other
alike_seen N layering cell other low sound sound_other e = (
  objects_alike layering.depth layering.layers other.objects other.movement cell.objects cell.movement low sound_other sound e,
  each_number (λ (mine theirs : Bool). mine ≡ theirs) cell.movement other.movement sound.proper sound_other.proper refl (heads_alike layering.depth layering.layers other.objects other.movement cell.objects cell.movement low sound_other sound e),
)

-- two levels are of one size and over the same layers
abbrev pub AreSized : Grid → Grid → Type 0
AreSized a b = (a.width ≡ b.width) × (a.height ≡ b.height) × (a.depth ≡ b.depth) × (a.layers ≡ b.layers)

pub size_of : (a b : Grid) → AreSized a b → SameSize a b
size_of a b is = record { width = sym is.0; height = sym is.1; depth = sym is.2; layers = sym is.3 }

pub are_same : (b : Bool) → not b ≡ false → b ≡ true
are_same b h = grind arith

-- levels of one size of which no cell differs
pub same_grids : (grid other : Grid) → SameSize grid other → length grid.cells ≡ length other.cells → ((number : ℕ) → number < length grid.cells → differ_in grid other number ≡ false) → grid ≡ other
same_grids grid other size long none =
    let cells : grid.cells ≡ other.cells = ext_get_or [] grid.cells other.cells long (λ number within. same_cell_is _ _ (are_same _ (none number within))) in
    grind arith

-- none is found exactly where they are the same
pub none_differs : (grid other : Grid) (found : Option ℕ) (r : Bool) → SameSize grid other → length grid.cells ≡ length other.cells → is_some found ≡ not r → IsNext (differ_in grid other) 0 (length grid.cells) found → IsTrue r ↔ (grid ≡ other)
none_differs grid other None r size long e none = (λ t. same_grids grid other size long (λ number within. none number (omega arith) within), λ same. grind arith)
none_differs grid other (Some found) r size long e next = (λ t. grind arith, λ same. grind (arith, next.2, ap (λ (g : Grid). same_cell (cell_of grid found) (cell_of g found)) same, same_cell_self (cell_of grid found)))

-- cells of two levels of one size are the same exactly where their words are alike
pub same_here : (N : ℕ) (layering others : Layering) (cell other : Cell N) → others ≡ layering → All (λ l. l < layering.depth) layering.layers → IsSound layering cell → IsSound others other → (r : Bool) → (IsTrue r ↔ AreAlike cell other) → IsTrue r ↔ (pieces_of_cell layering cell ≡ pieces_of_cell others other)
same_here N layering others cell other e low sound sound_other r is =
    let there = subst (λ l. IsSound l other) e sound_other in
    let same = λ (l : Layering). pieces_of_cell layering cell ≡ pieces_of_cell l other in
    (λ t. subst same (sym e) (seen_alike N layering cell other sound there (is.0 t)), λ same_seen. is.1 (alike_seen N layering cell other low sound there (subst same e same_seen)))
