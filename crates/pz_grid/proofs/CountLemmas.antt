-- How many places a row can have: one for each cell and gap. Without a gap, and in a small level with one, that is within the limit of a
-- search.
use Rattle.pz_grid.proofs.Common.{Action, Dir, Down, Grid, IsLawful, Left, MOST_SIDE, None, Ok, Right, RuleRow, Up, ap, arith, common_steps, gap_count, gather_few, length, line_count, line_length, mul-le-mul_right, places, refl, places_or_limit, ℕ, ◌*◌, ◌≡◌, ◌≤◌}
use Rattle.pz_grid.proofs.FoundLemmas.{found_with, found_at, found_in, found_at_all, found_in_all, places_all, searched-within}

found_at_few : (grid : Grid) (row : RuleRow) (dir : Dir) (line start : ℕ) → length (found_at grid row dir line start) ≤ gap_count grid row dir
found_at_few grid row dir line start =
    omega (arith, gather_few (found_with grid row dir line start) 1 (λ gap. grind (arith, common_steps)) (gap_count grid row dir), ap length (found_at_all grid row dir line start))

found_in_few : (grid : Grid) (row : RuleRow) (dir : Dir) (line : ℕ) → length (found_in grid row dir line) ≤ line_length grid dir * gap_count grid row dir
found_in_few grid row dir line =
    omega (arith, gather_few (found_at grid row dir line) (gap_count grid row dir) (found_at_few grid row dir line) (line_length grid dir), ap length (found_in_all grid row dir line))

-- a place for each gap of each cell of the lines
places_few : (grid : Grid) (row : RuleRow) (dir : Dir) → length (places grid row dir) ≤ line_count grid dir * (line_length grid dir * gap_count grid row dir)
places_few grid row dir =
    omega (arith, gather_few (found_in grid row dir) (line_length grid dir * gap_count grid row dir) (found_in_few grid row dir) (line_count grid dir), ap length (places_all grid row dir))

count_low : (grid : Grid) (dir : Dir) → IsLawful grid → line_count grid dir ≤ MOST_SIDE
count_low grid dir lawful = grind (arith, lawful.size)

pub length_low : (grid : Grid) (dir : Dir) → IsLawful grid → line_length grid dir ≤ MOST_SIDE
length_low grid dir lawful = grind (arith, lawful.size)

product_low : (n m gaps : ℕ) → n ≤ MOST_SIDE → m ≤ MOST_SIDE → gaps ≡ 1 → n * (m * gaps) ≤ 65025
product_low n m gaps h k one = rw one (omega (arith, mul-le-mul_right m h))

-- a row without a gap never meets the limit of a search
pub searched-gapless : (grid : Grid) (row : RuleRow) (dir : Dir) → IsLawful grid → row.gap_at ≡ None → places_or_limit grid row dir ≡ Ok (places grid row dir)
searched-gapless grid row dir lawful none =
    searched-within grid row dir (omega (arith, places_few grid row dir, product_low (line_count grid dir) (line_length grid dir) (gap_count grid row dir) (count_low grid dir lawful) (length_low grid dir lawful) (rw none refl)))

area : (grid : Grid) (dir : Dir) → line_count grid dir * line_length grid dir ≡ grid.width * grid.height
area grid dir = elim dir as (λ d. line_count grid d * line_length grid d ≡ grid.width * grid.height) [ Up ↦ refl | Down ↦ refl | Left ↦ omega arith | Right ↦ omega arith | Action ↦ omega arith ]

product_small : (n m gaps size : ℕ) → gaps ≤ MOST_SIDE → n * m ≡ size → size ≤ 4096 → n * (m * gaps) ≤ 1044480
product_small n m gaps size low is small =
    omega (arith, mul-le-mul_right (n * m) low)

-- in a small level no row meets it, whatever its gap spans
pub searched-small : (grid : Grid) (row : RuleRow) (dir : Dir) → IsLawful grid → grid.width * grid.height ≤ 4096 → places_or_limit grid row dir ≡ Ok (places grid row dir)
searched-small grid row dir lawful small =
    searched-within grid row dir (omega (arith, places_few grid row dir, product_small (line_count grid dir) (line_length grid dir) (gap_count grid row dir) (grid.width * grid.height) (grind (arith, length_low grid dir lawful)) (area grid dir) small))
