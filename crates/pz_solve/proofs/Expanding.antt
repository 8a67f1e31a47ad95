-- The presses that are tried from a level.
use Rattle.std.proofs.Common.{◌≡◌, ℕ, ◌+◌, ◌<◌, ◌⊎◌, inl, inr, List, refl, sym, subst, arith}
use Rattle.pz_game.specs.declared.direction.Dir.{Dir}
use Rattle.pz_game.specs.declared.direction.Dir.TheVariants.{Up, Down, Left, Right, Action}
use Rattle.pz_sheet.specs.Grid.{Grid}
use Rattle.pz_solve.specs.declared.solving.Tried.{Tried}
use Rattle.pz_solve.specs.declared.solving.Tried.TheVariants as tried
use Rattle.pz_solve.specs.Winning.{Moves}
use Rattle.pz_solve.specs.Found.{Found, IsSearch, IsTried}
use Rattle.pz_solve.specs.Trying.{Grows, HasTried, HasExpanded, input_of}
use Rattle.pz_solve.proofs.Searching.{tried_still}

-- the first presses were tried from a level, and none won
pub record AreTriedBelow (moves : Moves) (start : Grid) (old new : List Found) (index : ℕ) (here : Found) (number : ℕ) : Type 0 where
  pub grows : Grows old new
  pub search : IsSearch moves start new index
  pub each : (k : ℕ) → k < number → IsTried new here.depth (moves here.grid (input_of k))

pub grows_twice : (old middle new : List Found) → Grows old middle → Grows middle new → Grows old new
grows_twice old middle new first second index here is = second index here (first index here is)

pub one_more_tried : (moves : Moves) (start : Grid) (old middle new : List Found) (index : ℕ) (here : Found) (number most : ℕ) → AreTriedBelow moves start old middle index here number →
    HasTried moves start middle new index here most (input_of number) tried.Nothing → AreTriedBelow moves start old new index here (number + 1)
one_more_tried moves start old middle new index here number most before it = record {
  grows = grows_twice old middle new before.grows it.grows;
  search = it.search;
  each = λ k low. elim (below k low) [
    | inl less ↦ tried_still middle new here.depth (moves here.grid (input_of k)) it.grows (before.each k less)
    | inr same ↦ subst (λ (n : ℕ). IsTried new here.depth (moves here.grid (input_of n))) (sym same) it.comes_to
  ];
} where
  below : (k : ℕ) → k < number + 1 → (k < number) ⊎ (k ≡ number)
  below k low = grind (arith, low)

pub all_tried : (moves : Moves) (start : Grid) (old new : List Found) (index : ℕ) (here : Found) (most : ℕ) → AreTriedBelow moves start old new index here 5 →
    HasExpanded moves start old new index here most tried.Nothing
all_tried moves start old new index here most all = record {
  grows = all.grows;
  search = all.search;
  comes_to = each;
} where
  each : (input : Dir) → IsTried new here.depth (moves here.grid input)
  each Up = all.each 0 (omega arith)
  each Down = all.each 1 (omega arith)
  each Left = all.each 2 (omega arith)
  each Right = all.each 3 (omega arith)
  each Action = all.each 4 (omega arith)

pub last_tried : (moves : Moves) (start : Grid) (old middle new : List Found) (index : ℕ) (here : Found) (number most : ℕ) → AreTriedBelow moves start old middle index here number →
    (outcome : Tried) → HasTried moves start middle new index here most (input_of number) outcome → (outcome ≡ tried.Nothing → ⊥) → HasExpanded moves start old new index here most outcome
last_tried moves start old middle new index here number most before tried.Nothing it other = absurd (other refl)
last_tried moves start old middle new index here number most before (tried.Wins last) it other = record { grows = grows_twice old middle new before.grows it.grows; search = it.search; comes_to = it.comes_to }
last_tried moves start old middle new index here number most before tried.NoRoom it other = record { grows = grows_twice old middle new before.grows it.grows; search = it.search; comes_to = (input_of number, it.comes_to) }
