-- Levels and how each was found, side by side.
use Rattle.std.proofs.Common.{◌≡◌, ℕ, zero, suc, ◌<◌, Bool, List, [], ◌∷◌, ◌++◌, length, Some, refl, ap, sym, ◌∙◌, arith}
use Rattle.std.specs.Prelude.{option_map, slice_get, slice_index_or}
use Rattle.std.proofs.lemmas.Option.{same_Some, slice_get-map, slice_get_read}
use Rattle.pz_sheet.specs.Grid.{Grid}
use Rattle.pz_solve.specs.declared.search.Link.{Link}
use Rattle.pz_solve.specs.Found.{Found}
use Rattle.pz_solve.specs.Noted.{entry_of, found_in, grids_of, is_among, is_found}
use Rattle.pz_store.proofs.Listing.{there}

-- as many as there are levels
pub length_found : (grids : List Grid) (links : List Link) → length links ≡ length grids → length (found_in grids links) ≡ length grids
length_found [] [] long = refl
length_found [] (link ∷ links) long = absurd cc
length_found (grid ∷ grids) [] long = absurd cc
length_found (grid ∷ grids) (link ∷ links) long = ap suc (length_found grids links (omega (arith, long)))

-- their levels are these
pub grids_found : (grids : List Grid) (links : List Link) → length links ≡ length grids → grids_of (found_in grids links) ≡ grids
grids_found [] [] long = refl
grids_found [] (link ∷ links) long = absurd cc
grids_found (grid ∷ grids) [] long = absurd cc
grids_found (grid ∷ grids) (link ∷ links) long = ap (λ (all : List Grid). grid ∷ all) (grids_found grids links (omega (arith, long)))

-- one more of each is one more that was found
pub found_more : (grids : List Grid) (links : List Link) (grid : Grid) (link : Link) → length links ≡ length grids → found_in (grids ++ grid ∷ []) (links ++ link ∷ []) ≡ found_in grids links ++ entry_of grid link ∷ []
found_more [] [] grid link long = refl
found_more [] (l ∷ links) grid link long = absurd cc
found_more (g ∷ grids) [] grid link long = absurd cc
found_more (g ∷ grids) (l ∷ links) grid link long = ap (λ (all : List Found). entry_of g l ∷ all) (found_more grids links grid link (omega (arith, long)))

-- a level and its link make what was found
pub found_there : (grids : List Grid) (links : List Link) (index : ℕ) (grid : Grid) (link : Link) → slice_get grids index ≡ Some grid → slice_get links index ≡ Some link → slice_get (found_in grids links) index ≡ Some (entry_of grid link)
found_there [] links index grid link is told = absurd cc
found_there (g ∷ grids) [] index grid link is told = absurd cc
found_there (g ∷ grids) (l ∷ links) zero grid link is told = grind (arith, is, told)
found_there (g ∷ grids) (l ∷ links) (suc index) grid link is told = found_there grids links index grid link is told

-- the level of a number, among what was found
pub grid_there : (grids : List Grid) (links : List Link) (index : ℕ) → length links ≡ length grids → option_map (λ (f : Found). f.grid) (slice_get (found_in grids links) index) ≡ slice_get grids index
grid_there grids links index long =
    sym (slice_get-map (λ (f : Found). f.grid) (found_in grids links) index) ∙ ap (λ (all : List Grid). slice_get all index) (grids_found grids links long)

-- a link of this number is that of a level
pub level_of_link : (grids : List Grid) (links : List Link) (index : ℕ) (link : Link) → length links ≡ length grids → index < length links → slice_get links index ≡ Some link →
    (grid : Grid) × (slice_get (found_in grids links) index ≡ Some (entry_of grid link))
level_of_link grids links index link long within told =
    let h = there grids index (omega (arith, within, long)) in
    (h.0, found_there grids links index h.0 link h.1 told)

-- as many links as levels that were found
pub length_links : (grids : List Grid) (links : List Link) (found : List Found) → length links ≡ length grids → found_in grids links ≡ found → length links ≡ length found
length_links grids links found long view = long ∙ sym (length_found grids links long) ∙ ap (λ (all : List Found). length all) view

-- a link that is read is that of what was found
pub link_there : (grids : List Grid) (links : List Link) (found : List Found) (index : ℕ) (link : Link) → length links ≡ length grids → found_in grids links ≡ found → index < length found → link ≡ slice_index_or links index link →
    (grid : Grid) × (slice_get found index ≡ Some (entry_of grid link))
link_there grids links found index link long view within is =
    let low : index < length links = omega (arith, within, length_links grids links found long view) in
    let there = level_of_link grids links index link long low (slice_get_read links (length links) index link refl low is) in
    (there.0, ap (λ (all : List Found). slice_get all index) (sym view) ∙ there.1)

-- a level that is read is that of what was found
pub grid_read : (grids : List Grid) (links : List Link) (found : List Found) (index : ℕ) (grid : Grid) → length links ≡ length grids → found_in grids links ≡ found → slice_get grids index ≡ Some grid →
    option_map (λ (f : Found). f.grid) (slice_get found index) ≡ Some grid
grid_read grids links found index grid long view is =
    ap (λ (all : List Found). option_map (λ (f : Found). f.grid) (slice_get all index)) (sym view) ∙ grid_there grids links index long ∙ is

-- whether a level was found is whether it is among these
pub among : (grids : List Grid) (links : List Link) (found : List Found) (grid : Grid) (is : Bool) → length links ≡ length grids → found_in grids links ≡ found → is_among grids grid ≡ is → is_found found grid ≡ is
among grids links found grid is long view told =
    ap (λ (all : List Grid). is_among all grid) (ap (λ (all : List Found). grids_of all) (sym view) ∙ grids_found grids links long) ∙ told

-- the level of this number is what was found there
pub grid_of : (grids : List Grid) (links : List Link) (found : List Found) (index : ℕ) (grid : Grid) (here : Found) → length links ≡ length grids → found_in grids links ≡ found → slice_get grids index ≡ Some grid → slice_get found index ≡ Some here → here.grid ≡ grid
grid_of grids links found index grid here long view is is_here =
    same_Some here.grid grid (sym (ap (option_map (λ (f : Found). f.grid)) is_here) ∙ grid_read grids links found index grid long view is)
