-- Levels that are kept, with one more.
use Rattle.std.proofs.Common.{◌≡◌, ℕ, zero, suc, ◌<◌, ◌≤◌, inl, inr, false, List, [], ◌∷◌, ◌++◌, length, Some, ap, sym, subst, arith}
use Rattle.std.specs.Prelude.{slice_get}
use Rattle.std.specs.Cmp.{IsEquivalence}
use Rattle.std.specs.List.{IsDistinct}
use Rattle.std.proofs.lemmas.List.{map-append}
use Rattle.std.proofs.lemmas.Map.Keys.{IsDistinct-push}
use Rattle.pz_sheet.specs.Grid.{Grid}
use Rattle.pz_sheet.specs.Sameness.{same_grid}
use Rattle.pz_grid.proofs.SameLemmas.{same_grid_is, same_grid_self}
use Rattle.pz_solve.specs.Found.{Found, start_of}
use Rattle.pz_solve.specs.Noted.{AreDistinct, IsKept, IsPlaced, grids_of, is_found}
use Rattle.pz_store.proofs.Listing.{there_before}

pub same_grid_equivalence : IsEquivalence same_grid
same_grid_equivalence = record {
  refl = same_grid_self;
  symm = λ a b. grind (arith, same_grid_is a b, same_grid_is b a, same_grid_self a, same_grid_self b);
  congr = λ a b c same. ap (λ (g : Grid). same_grid g c) (same_grid_is a b same);
}

distinct_one : (found : Found) → AreDistinct (found ∷ [])
unfolding IsDistinct
distinct_one found = (tt, tt)

pub distinct_more : (found : List Found) (more : Found) → AreDistinct found → is_found found more.grid ≡ false → AreDistinct (found ++ more ∷ [])
distinct_more found more distinct new =
    subst (λ (grids : List Grid). IsDistinct same_grid grids) (sym (map-append (λ (here : Found). here.grid) found (more ∷ [])))
    (IsDistinct-push same_grid_equivalence (grids_of found) more.grid distinct new)

pub kept_one : (grid : Grid) → IsKept (start_of grid ∷ [])
kept_one grid = record { distinct = distinct_one (start_of grid); placed = placed } where
  placed : (index : ℕ) (here : Found) → slice_get (start_of grid ∷ []) index ≡ Some here → IsPlaced index here
  placed zero here is = record { low = grind (arith, is); behind = λ some. absurd (omega (arith, some)) }
  placed (suc index) here is = absurd cc

pub kept_more : (found : List Found) (more : Found) → IsKept found → is_found found more.grid ≡ false → more.depth ≤ length found → more.parent < length found → IsKept (found ++ more ∷ [])
kept_more found more kept new low behind = record {
  distinct = distinct_more found more kept.distinct new;
  placed = λ index here is. elim (there_before found more index here is) [
    | inl was ↦ kept.placed index here was
    | inr last ↦ subst (λ (f : Found). IsPlaced index f) last.1 (record { low = omega (arith, low, last.0); behind = λ _. omega (arith, behind, last.0) })
  ];
}
