-- Whether a level is among others, by the places of its digest.
use Rattle.std.proofs.Common.{◌≡◌, ℕ, zero, suc, ◌+◌, ◌<◌, ◌≤◌, Bool, true, false, ◌||◌, List, [], ◌∷◌, length, Option, Some, None, refl, ap, sym, ◌∙◌, subst, arith}
use Rattle.std.specs.Prelude.{slice_get, option_map}
use Rattle.std.proofs.lemmas.List.{length-map}
use Rattle.std.proofs.lemmas.Option.{same_Some, slice_get-map, slice_get_within}
use Rattle.pz_sheet.specs.Grid.{Grid}
use Rattle.pz_sheet.specs.Sameness.{same_grid}
use Rattle.pz_grid.proofs.SameLemmas.{same_grid_is, same_grid_self}
use Rattle.pz_store.specs.Digest.{digest_of}
use Rattle.pz_solve.specs.Indexed.{IsNewest}
use Rattle.pz_solve.specs.Noted.{digests_of, is_among}

-- a place is not behind another one, if there is one
abbrev pub IsUpTo : Option ℕ → ℕ → Type 0
IsUpTo None place = ⊥
IsUpTo (Some last) place = place ≤ last

-- a level is not among others
pub none_among : (grids : List Grid) (grid : Grid) → ((place : ℕ) → slice_get grids place ≡ Some grid → ⊥) → is_among grids grid ≡ false
none_among [] grid none = refl
none_among (first ∷ grids) grid none = by (λ (more : (place : ℕ) → slice_get grids place ≡ Some grid → ⊥). none_among grids grid more) (same_grid grid first) refl where
  by : (((place : ℕ) → slice_get grids place ≡ Some grid → ⊥) → is_among grids grid ≡ false) → (same : Bool) → same_grid grid first ≡ same → (same || is_among grids grid) ≡ false
  by later true same = absurd (none 0 (ap (λ (g : Grid). Some g) (sym (same_grid_is grid first same))))
  by later false same = later (λ place is. none (suc place) is)

-- a level is among others
pub there_among : (grids : List Grid) (place : ℕ) (grid : Grid) → slice_get grids place ≡ Some grid → is_among grids grid ≡ true
there_among [] place grid is = absurd cc
there_among (first ∷ grids) zero grid is =
    let equal : same_grid grid first ≡ true = subst (λ (g : Grid). same_grid g first ≡ true) (same_Some first grid is) (same_grid_self first) in
    ap (λ (b : Bool). b || is_among grids grid) equal
there_among (first ∷ grids) (suc place) grid is = by (same_grid grid first) (there_among grids place grid is) where
  by : (b : Bool) → is_among grids grid ≡ true → (b || is_among grids grid) ≡ true
  by true later = refl
  by false later = later

-- where the digest of a level is
pub digest_there : (objects : ℕ) (grids : List Grid) (place : ℕ) (grid : Grid) → slice_get grids place ≡ Some grid → slice_get (digests_of objects grids) place ≡ Some (digest_of objects grid)
digest_there objects grids place grid is = slice_get-map (digest_of objects) grids place ∙ ap (option_map (digest_of objects)) is

-- a level that is there below a number is not behind the last place of its digest there
pub up_to : (objects : ℕ) (grids : List Grid) (digests : List ℕ) (digest below : ℕ) (grid : Grid) (at : Option ℕ) → digests ≡ digests_of objects grids → digest ≡ digest_of objects grid →
    IsNewest digests below digest at → (place : ℕ) → place < below → slice_get grids place ≡ Some grid → IsUpTo at place
up_to objects grids digests digest below grid at indexed is newest place low there = by at newest where
  its : slice_get digests place ≡ Some digest
  its = ap (λ (all : List ℕ). slice_get all place) indexed ∙ digest_there objects grids place grid there ∙ ap (λ (d : ℕ). Some d) (sym is)

  by : (at : Option ℕ) → IsNewest digests below digest at → IsUpTo at place
  by None none = none place low its
  by (Some last) it = it.2 place low its

-- the last place is one of the digest, below the number of places
abbrev pub IsPlaceOf : ℕ → List ℕ → ℕ → Option ℕ → Type 0
IsPlaceOf count digests digest at = (place : ℕ) → at ≡ Some place → (place < count) × (slice_get digests place ≡ Some digest)

pub place_of : (count : ℕ) (digests : List ℕ) (below digest : ℕ) (at : Option ℕ) → length digests ≡ count → IsNewest digests below digest at → IsPlaceOf count digests digest at
place_of count digests below digest None long none place is = absurd cc
place_of count digests below digest (Some last) long it place is =
    let same : last ≡ place = grind (arith, is) in
    subst (λ (n : ℕ). (n < count) × (slice_get digests n ≡ Some digest)) same (omega (arith, slice_get_within digests last digest it.1, long), it.1)

-- as many digests as levels
pub as_many : (objects : ℕ) (grids : List Grid) (digests : List ℕ) → digests ≡ digests_of objects grids → length digests ≡ length grids
as_many objects grids digests is = ap (λ (all : List ℕ). length all) is ∙ length-map grids (digest_of objects)

abbrev pub rank : Option ℕ → ℕ
rank None = 0
rank (Some place) = place + 1
