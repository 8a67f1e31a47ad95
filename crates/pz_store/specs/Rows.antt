-- Rows of numbers, each as long as the others.
use Rattle.std.specs.Prelude.{ℕ, zero, suc, List, [], ◌∷◌, take, drop}

-- what rows are to their callers
pub record RowsState : Type 0 where
  pub long : ℕ
  pub rows : List (List ℕ)

-- so many rows, of numbers that lie one behind another
abbrev pub rows_in : ℕ → ℕ → List ℕ → List (List ℕ)
rows_in long zero numbers = []
rows_in long (suc count) numbers = take long numbers ∷ rows_in long count (drop long numbers)
