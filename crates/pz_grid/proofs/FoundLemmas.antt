-- The places of a row, found line by line.
use Rattle.pz_grid.proofs.Common.{Bool, Dir, Err, Grid, List, MATCH_LIMIT, MatchLimit, Ok, Place, RuleRow, StartsNowhere, [], ap, arith, false, filter, filter-append, flat_map, gap_count, gather, gather_none, length, line_count, line_length, ltb-false, ltb-true, pairs_at, pairs_in, place_in, places, range_with_len, refl, row_holds, sym, ℕ, ◌<◌, ◌∙◌, ◌∷◌, ◌≡◌, ◌≤◌}
use Rattle.std.proofs.lemmas.List.Concat.{flat_map_single}
use Rattle.pz_grid.specs.Places.{places_or_limit}

-- a filter of what is gathered is gathered from what is filtered
pub filter-flat_map : {X Y : Type 0} (p : Y → Bool) (h : X → List Y) (xs : List X) → filter p (flat_map h xs) ≡ flat_map (λ x. filter p (h x)) xs
filter-flat_map p h [] = refl
filter-flat_map p h (x ∷ xs) = grind (arith, filter-append p (h x) (flat_map h xs), filter-flat_map p h xs)

-- within the limit the search gives all places
pub searched-within : (grid : Grid) (row : RuleRow) (dir : Dir) → length (places grid row dir) ≤ MATCH_LIMIT → places_or_limit grid row dir ≡ Ok (places grid row dir)
unfolding places_or_limit
searched-within grid row dir within = grind (arith, ltb-true MATCH_LIMIT (length (places grid row dir)))

-- over the limit it gives none
pub searched-over : (grid : Grid) (row : RuleRow) (dir : Dir) → MATCH_LIMIT < length (places grid row dir) → places_or_limit grid row dir ≡ Err MatchLimit
unfolding places_or_limit
searched-over grid row dir over = grind (arith, ltb-false MATCH_LIMIT (length (places grid row dir)))

-- what it gives are the places
pub searched-gives : (grid : Grid) (row : RuleRow) (dir : Dir) (found : List Place) → places_or_limit grid row dir ≡ Ok found → found ≡ places grid row dir
searched-gives grid row dir found is = grind (arith, is, searched-over grid row dir, searched-within grid row dir)

-- the places of one pair, of one start cell, of one line
abbrev pub found_with : Grid → RuleRow → Dir → ℕ → ℕ → ℕ → List Place
found_with grid row dir line start gap = filter (row_holds grid row dir) (place_in dir line start gap ∷ [])

abbrev pub found_at : Grid → RuleRow → Dir → ℕ → ℕ → List Place
found_at grid row dir line start = filter (row_holds grid row dir) (pairs_at grid row dir line start)

abbrev pub found_in : Grid → RuleRow → Dir → ℕ → List Place
found_in grid row dir line = filter (row_holds grid row dir) (pairs_in grid row dir line)

pub found_at_all : (grid : Grid) (row : RuleRow) (dir : Dir) (line start : ℕ) → gather (found_with grid row dir line start) (gap_count grid row dir) ≡ found_at grid row dir line start
found_at_all grid row dir line start =
    let gaps = range_with_len 0 (gap_count grid row dir) in
    sym (filter-flat_map (row_holds grid row dir) (λ gap. place_in dir line start gap ∷ []) gaps) ∙ ap (filter (row_holds grid row dir)) (flat_map_single (place_in dir line start) gaps)

pub found_in_all : (grid : Grid) (row : RuleRow) (dir : Dir) (line : ℕ) → gather (found_at grid row dir line) (line_length grid dir) ≡ found_in grid row dir line
found_in_all grid row dir line = sym (filter-flat_map (row_holds grid row dir) (pairs_at grid row dir line) (range_with_len 0 (line_length grid dir)))

pub places_all : (grid : Grid) (row : RuleRow) (dir : Dir) → gather (found_in grid row dir) (line_count grid dir) ≡ places grid row dir
places_all grid row dir = sym (filter-flat_map (row_holds grid row dir) (pairs_in grid row dir) (range_with_len 0 (line_count grid dir)))

-- no place starts in a cell where the row holds with no gap, and none in a line where it doesn't start
pub found_at_none : (grid : Grid) (row : RuleRow) (dir : Dir) (line start : ℕ) → ((gap : ℕ) → row_holds grid row dir (place_in dir line start gap) ≡ false) → found_at grid row dir line start ≡ []
found_at_none grid row dir line start fails =
    sym (found_at_all grid row dir line start) ∙ gather_none (found_with grid row dir line start) (λ gap. grind (arith, fails gap)) (gap_count grid row dir)

pub found_nowhere : (grid : Grid) (row : RuleRow) (dir : Dir) (line : ℕ) → StartsNowhere grid row dir line → found_in grid row dir line ≡ []
found_nowhere grid row dir line none =
    sym (found_in_all grid row dir line) ∙ gather_none (found_at grid row dir line) (λ start. found_at_none grid row dir line start (λ gap. none (place_in dir line start gap) (grind arith))) (line_length grid dir)
