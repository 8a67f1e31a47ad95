-- What each view of a claim table says. If a view doesn't speak of a list, a count or a word, it says [] or 0.
use Rattle.std.specs.Prelude.{◌≡◌, ℕ, List, []}
use Rattle.pz_claims.specs.declared.view.View.{View}
use Rattle.pz_claims.specs.declared.view.View.TheVariants.{Making, Claiming, Ended, Spent}

-- how many numbers the table has in all
abbrev pub total_of : View → ℕ
total_of (Making total numbers made joined) = total
total_of (Claiming total numbers) = total
total_of (Ended total numbers found) = total
total_of Spent = 0

-- the numbers that the holder has
abbrev pub numbers_of : View → List ℕ
numbers_of (Making total numbers made joined) = numbers
numbers_of (Claiming total numbers) = numbers
numbers_of (Ended total numbers found) = numbers
numbers_of Spent = []

-- the word that an ended seat found, at which no number was left
abbrev pub found_of : View → ℕ
found_of (Ended total numbers found) = found
found_of view = 0

-- how many seats the maker made
abbrev pub made_of : View → ℕ
made_of (Making total numbers made joined) = made
made_of view = 0

-- how many seats the maker joined
abbrev pub joined_of : View → ℕ
joined_of (Making total numbers made joined) = joined
joined_of view = 0

-- 1 for the maker
abbrev pub makers_of : View → ℕ
makers_of (Making total numbers made joined) = 1
makers_of view = 0

-- 1 for a seat that may claim
abbrev pub claiming_of : View → ℕ
claiming_of (Claiming total numbers) = 1
claiming_of view = 0

-- 1 for a seat that has ended and is not joined
abbrev pub ended_of : View → ℕ
ended_of (Ended total numbers found) = 1
ended_of view = 0

-- 1 for a seat that was joined
abbrev pub spent_of : View → ℕ
spent_of Spent = 1
spent_of view = 0

-- the view knows that the table has this many numbers, or nothing any more
abbrev pub Knows : ℕ → View → Type 0
Knows total Spent = Unit {0}
Knows total view = total_of view ≡ total
