-- A press that is tried.
use Rattle.std.proofs.Common.{◌≡◌, ℕ, suc, ◌+◌, ◌≤◌, Bool, true, false, ◌||◌, List, [], ◌∷◌, ◌++◌, length, Some, refl, sym, subst, arith}
use Rattle.std.specs.Prelude.{slice_get}
use Rattle.pz_game.specs.declared.direction.Dir.{Dir}
use Rattle.pz_sheet.specs.Grid.{Grid}
use Rattle.pz_sheet.specs.Sameness.{same_grid}
use Rattle.pz_grid.proofs.SameLemmas.{same_grid_is}
use Rattle.pz_solve.specs.declared.search.Link.{Link}
use Rattle.pz_solve.specs.declared.search.Noted.{Noted}
use Rattle.pz_solve.specs.declared.search.Noted.TheVariants.{Known, Added, NoRoom}
use Rattle.pz_solve.specs.declared.solving.Tried.TheVariants as tried
use Rattle.pz_solve.specs.Moves.{Reached, Stands, Wins, DeadEnd}
use Rattle.pz_solve.specs.Winning.{Moves}
use Rattle.pz_solve.specs.Found.{Found, IsSearch, IsTried}
use Rattle.pz_solve.specs.Noted.{IsNotedAs, entry_of, is_found}
use Rattle.pz_solve.specs.Trying.{Grows, HasTried, tried_by}
use Rattle.pz_store.proofs.Listing.{last_there}
use Rattle.pz_solve.proofs.Searching.{goes_on, grows_by}

-- where a level is that was found
abbrev pub IsThere : List Found → Grid → Type 0
IsThere found grid = (index : ℕ) × (here : Found) × (slice_get found index ≡ Some here) × (here.grid ≡ grid)

pub where_found : (found : List Found) (grid : Grid) → is_found found grid ≡ true → IsThere found grid
where_found [] grid is = absurd cc
where_found (first ∷ found) grid is = by (λ later. where_found found grid later) (same_grid grid first.grid) refl is where
  by : (is_found found grid ≡ true → IsThere found grid) → (same : Bool) → same_grid grid first.grid ≡ same → (same || is_found found grid) ≡ true → IsThere (first ∷ found) grid
  by later true same is = (0, first, refl, sym (same_grid_is grid first.grid same))
  by later false same is = let it = later is in (suc it.0, it.1, it.2, it.3)

pub grows_not : (found : List Found) → Grows found found
grows_not found index here is = is

-- nothing changed
pub unchanged : (old new : List Found) → new ≡ old → Grows old new
unchanged old new same = subst (λ (all : List Found). Grows old all) (sym same) (grows_not old)

module _ (moves : Moves) (start : Grid) (old new : List Found) (index : ℕ) (here : Found) (most : ℕ) (input : Dir)
    (search : IsSearch moves start old index) (is_here : slice_get old index ≡ Some here) where
  search_still : new ≡ old → IsSearch moves start new index
  search_still same = subst (λ (all : List Found). IsSearch moves start all index) (sym same) search

  pub tried_win : new ≡ old → moves here.grid input ≡ Wins → HasTried moves start old new index here most input (tried.Wins input)
  tried_win same win = record { grows = unchanged old new same; search = search_still same; comes_to = win }

  pub tried_dead : new ≡ old → moves here.grid input ≡ DeadEnd → HasTried moves start old new index here most input tried.Nothing
  tried_dead same dead = record { grows = unchanged old new same; search = search_still same; comes_to = subst (λ (reached : Reached). IsTried new here.depth reached) (sym dead) tt }

  pub tried_noted : (grid : Grid) (link : Link) → moves here.grid input ≡ Stands grid → link.parent ≡ index → link.input ≡ input → link.depth ≡ here.depth + 1 →
      (noted : Noted) → IsNotedAs old new most (entry_of grid link) noted → HasTried moves start old new index here most input (tried_by noted)
  tried_noted grid link leads parent pressed depth Known (known, same) =
      let it = where_found old grid known in
      let tried : IsTried old here.depth (Stands grid) = (it.0, it.1, it.2, it.3, search.near it.0 here it.1 is_here it.2) in
      record {
        grows = unchanged old new same;
        search = search_still same;
        comes_to = subst (λ (reached : Reached). IsTried new here.depth reached) (sym leads) (subst (λ (all : List Found). IsTried all here.depth (Stands grid)) (sym same) tried);
      }
  tried_noted grid link leads parent pressed depth Added (fresh, added, few) =
      let more = entry_of grid link in
      let on : IsSearch moves start (old ++ more ∷ []) index = goes_on moves start old index here more search is_here parent depth (subst (λ (d : Dir). moves here.grid d ≡ Stands grid) (sym pressed) leads) in
      let tried : IsTried (old ++ more ∷ []) here.depth (Stands grid) = (length old, more, last_there old more, refl, omega (arith, depth)) in
      record {
        grows = subst (λ (all : List Found). Grows old all) (sym added) (grows_by old more);
        search = subst (λ (all : List Found). IsSearch moves start all index) (sym added) on;
        comes_to = subst (λ (reached : Reached). IsTried new here.depth reached) (sym leads) (subst (λ (all : List Found). IsTried all here.depth (Stands grid)) (sym added) tried);
      }
  tried_noted grid link leads parent pressed depth NoRoom (fresh, same, full) = record {
    grows = unchanged old new same;
    search = search_still same;
    comes_to = (grid, leads, subst (λ (all : List Found). is_found all grid ≡ false) (sym same) fresh, subst (λ (all : List Found). most ≤ length all) (sym same) full);
  }
