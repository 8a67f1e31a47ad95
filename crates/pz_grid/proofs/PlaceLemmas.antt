-- The places of a row are those pairs that hold.
use Rattle.pz_grid.proofs.Common.{All-contains, All-contains_itself, All-filter, Bool, Contains, Contains-append_cases, Contains-append_left, Contains-append_right, Dir, Grid, IfSome, IsRow, List, None, Option, Place, RuleRow, Some, [], along, and_from, and_parts, arith, cases_eq, cell_holds, cond, distance, eq-eqb, eqb-true, false, filter, filter_passes, flat_map, gap_count, get_or, get_or-map-range_with_len, holds_at, if◌then◌else◌, inl, inr, is_some, le-leb, length, length-map-range_with_len, line_count, line_length, line_of, lt-leb, nat_eq, pairs, pairs_at, pairs_in, place_in, places, range_with_len, refl, row_holds, start_of, still_holds, suc, true, zero, ℕ, ◌+◌, ◌<◌, ◌||◌, ◌∙◌, ◌∷◌, ◌≡◌, ◌≤◌}
use Rattle.pz_grid.proofs.FoldLemmas.{each_from_all}

-- what is in one of the lists is in all of them together
gathered : {X : Type 0} (h : ℕ → List X) (a n k : ℕ) (x : X) → a ≤ k → k < a + n → Contains (h k) x → Contains (flat_map h (range_with_len a n)) x
gathered h a zero k x from within in_one = absurd (omega arith)
gathered h a (suc n) k x from within in_one = elim (cases_eq k a) [
  | inl here ↦ Contains-append_left (h a) (flat_map h (range_with_len (a + 1) n)) x (rw here at in_one)
  | inr later ↦ Contains-append_right (h a) (flat_map h (range_with_len (a + 1) n)) x (gathered h (a + 1) n k x (omega arith) (omega arith) in_one)
]

-- what is in all of them together is in one
gathered_from : {X : Type 0} (h : ℕ → List X) (a n : ℕ) (x : X) → Contains (flat_map h (range_with_len a n)) x → (k : ℕ) × (k < a + n) × Contains (h k) x
gathered_from h a zero x (k, within, is) = absurd (omega arith)
gathered_from h a (suc n) x in_all = elim (Contains-append_cases (h a) (flat_map h (range_with_len (a + 1) n)) x in_all) [
  | inl here ↦ (a, omega arith, here)
  | inr later ↦ let next = gathered_from h (a + 1) n x later in let less = next.1 in (next.0, omega arith, next.2)
]

-- what passes is kept
kept_by : {X : Type 0} (p : X → Bool) (xs : List X) (x : X) → Contains xs x → p x ≡ true → Contains (filter p xs) x
kept_by p [] x (k, within, is) passes = absurd (omega arith)
kept_by p (y ∷ ys) x (zero, within, is) passes = rw (is, passes) (0, omega arith, refl)
kept_by p (y ∷ ys) x (suc k, within, is) passes =
    let rest = kept_by p ys x (k, omega arith, is) passes in
    elim (p y) as (λ b. Contains (cond b (y ∷ filter p ys) (filter p ys)) x) [ true ↦ Contains-append_right (y ∷ []) (filter p ys) x rest | false ↦ rest ]

own_place : (dir : Dir) (place : Place) → place_in dir (line_of dir place) (start_of dir place) place.gap ≡ place
own_place dir place = grind arith

pub in_pairs : (grid : Grid) (row : RuleRow) (dir : Dir) (place : Place) → place.x < grid.width → place.y < grid.height → place.gap < gap_count grid row dir → Contains (pairs grid row dir) place
in_pairs grid row dir place in_x in_y in_gaps =
    let line = line_of dir place in
    let start = start_of dir place in
    let f = place_in dir line start in
    gathered (pairs_in grid row dir) 0 (line_count grid dir) line place (omega arith) (grind arith)
    (gathered (pairs_at grid row dir line) 0 (line_length grid dir) start place (omega arith) (grind arith)
    (place.gap, omega (arith, length-map-range_with_len f 0 (gap_count grid row dir)), get_or-map-range_with_len f 0 (gap_count grid row dir) place.gap place.gap place in_gaps (omega arith) ∙ own_place dir place))

gap_from_pairs : (grid : Grid) (row : RuleRow) (dir : Dir) (place : Place) → Contains (pairs grid row dir) place → place.gap < gap_count grid row dir
gap_from_pairs grid row dir place in_all =
    let a = gathered_from (pairs_in grid row dir) 0 (line_count grid dir) place in_all in
    let b = gathered_from (pairs_at grid row dir a.0) 0 (line_length grid dir) place a.2 in
    let at = b.2 in
    let f = place_in dir a.0 b.0 in
    grind (arith, at.1, at.2, get_or-map-range_with_len f 0 (gap_count grid row dir) at.0 at.0 place, length-map-range_with_len f 0 (gap_count grid row dir))

-- a place holds
pub holds_from_place : (grid : Grid) (row : RuleRow) (dir : Dir) (place : Place) → Contains (places grid row dir) place → still_holds grid dir (row, place) ≡ true
holds_from_place grid row dir place found =
    let p = row_holds grid row dir in
    let in_all = All-contains (Contains (pairs grid row dir)) (places grid row dir) place (All-filter p (Contains (pairs grid row dir)) (pairs grid row dir) (All-contains_itself (pairs grid row dir))) found in
    let passes = All-contains (λ x. p x ≡ true) (places grid row dir) place (filter_passes p (pairs grid row dir)) found in
    and_from _ _ (grind (arith, eq-eqb place.gap 0, gap_from_pairs grid row dir place in_all)) passes

-- each cell of a row that holds, holds where it stands
pub holds_each_cell : (grid : Grid) (row : RuleRow) (dir : Dir) (place : Place) (k : ℕ) → k < length row.cells → row_holds grid row dir place ≡ true → holds_at grid (get_or row.cells k []) (along grid dir place.x place.y (distance row.gap_at place.gap k)) ≡ true
holds_each_cell grid row dir place k within h = each_from_all (cell_holds grid row dir place) row.cells [] k within h

distance_first : (at : Option ℕ) (gap n : ℕ) → IfSome at (λ a. (0 < a) × (a < n)) → distance at gap 0 ≡ 0
distance_first at gap n h = grind (arith, h, lt-leb)

gap_inside : (grid : Grid) (row : RuleRow) (dir : Dir) (place : Place) (at : Option ℕ) → row.gap_at ≡ at → IfSome at (λ a. (0 < a) × (a < length row.cells)) → (is_some at || nat_eq place.gap 0) ≡ true → row_holds grid row dir place ≡ true → place.x < grid.width → place.y < grid.height → place.gap < (if is_some at then line_length grid dir else 1)
gap_inside grid row dir place None same between gap h in_x in_y = grind (arith, gap, eqb-true place.gap 0)
gap_inside grid row dir place (Some a) same between gap h in_x in_y =
    grind (arith, same, le-leb a a, in_x, in_y, holds_each_cell grid row dir place a between.1 h)

pair_from_holds : (grid : Grid) (row : RuleRow) (dir : Dir) (place : Place) → IsRow row → (is_some row.gap_at || nat_eq place.gap 0) ≡ true → row_holds grid row dir place ≡ true → Contains (pairs grid row dir) place
pair_from_holds grid row dir place is gap h =
    let first = rw (distance_first row.gap_at place.gap (length row.cells) is.between) at (holds_each_cell grid row dir place 0 is.some h) in
    let start : (place.x < grid.width) × (place.y < grid.height) = grind (arith, first) in
    in_pairs grid row dir place start.0 start.1 (gap_inside grid row dir place row.gap_at refl is.between gap h start.0 start.1)

-- what holds is a place
pub place_from_holds : (grid : Grid) (row : RuleRow) (dir : Dir) (place : Place) → IsRow row → still_holds grid dir (row, place) ≡ true → Contains (places grid row dir) place
place_from_holds grid row dir place is h =
    let both = and_parts (is_some row.gap_at || nat_eq place.gap 0) (row_holds grid row dir place) h in
    kept_by (row_holds grid row dir) (pairs grid row dir) place (pair_from_holds grid row dir place is both.0 both.1) both.1
