-- The rule of a claim table: which numbers its holders have together, and how far its word is.
use Rattle.std.specs.Prelude.{◌≡◌, ◌⊎◌, ℕ, ◌+◌, ◌-◌, ◌≤◌, ◌==◌, if◌then◌else◌, ltb, min, List, length, slice_index, sum_by, count_by}
use mathlib.Core.Option.{some}
use lib.ListN.{get_elem?}
use Rattle.atomic_table.specs.Table.{State}
use Rattle.pz_claims.specs.View.{numbers_of, made_of, joined_of, makers_of, claiming_of, ended_of, spent_of, Knows}
use Rattle.pz_claims.specs.declared.limits.TheConstants.{MOST_SEATS}
use Rattle.pz_claims.specs.declared.view.View.{View}

-- how often x stands in the list
abbrev pub times : ℕ → List ℕ → ℕ
times x xs = count_by (λ y. y == x) xs

-- 1 if x is below n, and else 0
abbrev pub once_below : ℕ → ℕ → ℕ
once_below x n = if ltb x n then 1 else 0

-- each number below n stands once in the list, and no other
abbrev pub Once : ℕ → List ℕ → Type 0
Once n xs = (x : ℕ) → times x xs ≡ once_below x n

-- no number stands twice in the list
abbrev pub NoneTwice : List ℕ → Type 0
NoneTwice xs = (x : ℕ) → times x xs ≤ 1

-- the two lists share no number
abbrev pub Apart : List ℕ → List ℕ → Type 0
Apart xs ys = (x : ℕ) → (times x xs ≡ 0) ⊎ (times x ys ≡ 0)

-- a table as the rule sees it: its word, no slots, and the views of all holders
abbrev pub Table : Type 0
Table = State (Unit {0}) View

-- how many claims were made
abbrev pub word_of : Table → ℕ
word_of table = slice_index table.words 0

-- the rule of a table of `total` numbers
pub record IsLawful (total : ℕ) (table : Table) : Type 0 where
  pub word : length table.words ≡ 1
  -- the holders have each number below the lesser of the word and the total once, and no other
  pub numbers : (x : ℕ) → sum_by (λ view. times x (numbers_of view)) table.views ≡ once_below x (min (word_of table) total)
  -- past the total the word counts the seats that have ended, those that were joined too
  pub ended : sum_by ended_of table.views + sum_by spent_of table.views ≡ word_of table - total
  -- there is one maker. It knows how many seats were made, each of which may claim, has ended or was joined, and how many were joined
  pub maker : sum_by makers_of table.views ≡ 1
  pub made : sum_by claiming_of table.views + sum_by ended_of table.views + sum_by spent_of table.views ≡ sum_by made_of table.views
  pub joined : sum_by spent_of table.views ≡ sum_by joined_of table.views
  pub few : sum_by made_of table.views ≤ MOST_SEATS
  pub known : (id : ℕ) (view : View) → get_elem? table.views id ≡ some view → Knows total view
