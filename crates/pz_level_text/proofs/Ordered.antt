-- The sets of a level's cells, one after the other.
use Rattle.pz_level_text.proofs.Common.{common_steps, ◌≡◌, ℕ, Bool, suc, ◌+◌, ◌*◌, ◌<◌, ◌≤◌, ◌&&◌, List, [], ◌∷◌, length, drop, get_or, true, false, refl, ap, sym, ◌∙◌, arith, length-map, get_or-map, drop_more, drop_all, GameParts, member, Grid, stands, Order, set_of, same_set, texts_in, position_of, column_of, row_of, cells_in, standing_names, sets_in, text_of_names, same_sets, equals_recorded, has_names}
use Rattle.std.proofs.lemmas.List.FromFn.{length-map-range_with_len, get_or-map-range_with_len}
use Rattle.pz_level_text.proofs.Labelling.{named_at}

pub length-sets_in : (game : GameParts) (order : Order) (grid : Grid) → length (sets_in game order grid) ≡ grid.width * grid.height
length-sets_in game order grid =
    length-map (cells_in order grid) (λ position. set_of (standing_names game.objects grid position)) ∙ length-map-range_with_len (position_of order grid) 0 (grid.width * grid.height)

-- the set of the cell of a number
pub set_at : (game : GameParts) (order : Order) (grid : Grid) (k x y : ℕ) → k < grid.width * grid.height → x ≡ column_of order grid k → y ≡ row_of order grid k
    → get_or (sets_in game order grid) k [] ≡ set_of (standing_names game.objects grid (x, y))
set_at game order grid k x y h e f = grind (arith, common_steps, length-map-range_with_len (position_of order grid) 0 (grid.width * grid.height), grid.width, grid.height, get_or-map, get_or-map-range_with_len (position_of order grid) 0 (grid.width * grid.height) k k (0, 0) h (omega arith))

other_length : (xs ys : List (List (List ℕ))) → (length xs ≡ length ys → ⊥) → same_sets xs ys ≡ false
other_length [] [] d = absurd (d refl)
other_length [] (y ∷ ys) d = refl
other_length (x ∷ xs) [] d = refl
other_length (x ∷ xs) (y ∷ ys) d = rw (other_length xs ys (λ e. d (ap suc e))) (and_false (same_set x y))
  where
    and_false : (b : Bool) → (b && false) ≡ false
    and_false true = refl
    and_false false = refl

-- as many cells as were recorded
pub other_size : (game : GameParts) (order : Order) (grid : Grid) (recorded : List (List (List ℕ))) → (length recorded ≡ grid.width * grid.height → ⊥) → equals_recorded game order grid recorded ≡ false
unfolding equals_recorded
other_size game order grid recorded d = other_length (sets_in game order grid) recorded (λ e. d (sym e ∙ length-sets_in game order grid))

-- the cells from a number on
abbrev pub same_from : GameParts → Order → Grid → List (List (List ℕ)) → ℕ → Bool
same_from game order grid recorded k = same_sets (drop k (sets_in game order grid)) (drop k recorded)

pub same_start : (game : GameParts) (order : Order) (grid : Grid) (recorded : List (List (List ℕ))) → same_from game order grid recorded 0 ≡ equals_recorded game order grid recorded
unfolding equals_recorded
same_start game order grid recorded = refl

-- the next cell
pub same_step : (game : GameParts) (order : Order) (grid : Grid) (recorded : List (List (List ℕ))) (k x y : ℕ) → k < grid.width * grid.height → length recorded ≡ grid.width * grid.height
    → x ≡ column_of order grid k → y ≡ row_of order grid k
    → same_from game order grid recorded k ≡ (same_set (set_of (standing_names game.objects grid (x, y))) (get_or recorded k []) && same_from game order grid recorded (k + 1))
same_step game order grid recorded k x y h size e f = grind (arith, common_steps, length-sets_in game order grid, drop_more (sets_in game order grid) k, drop_more recorded k, set_at game order grid k x y h e f)

-- the next cell, by the set of the objects that stand there
pub named_step : (game : GameParts) (order : Order) (grid : Grid) (recorded : List (List (List ℕ))) (k x y : ℕ) (objects : List ℕ) → k < grid.width * grid.height → length recorded ≡ grid.width * grid.height
    → x ≡ column_of order grid k → y ≡ row_of order grid k → ((object : ℕ) → member objects object ≡ stands grid x y object)
    → same_from game order grid recorded k ≡ (has_names game.objects objects (get_or recorded k []) && same_from game order grid recorded (k + 1))
named_step game order grid recorded k x y objects h size e f same =
    same_step game order grid recorded k x y h size e f
    ∙ ap (λ (names : List (List ℕ)). same_set (set_of names) (get_or recorded k []) && same_from game order grid recorded (k + 1)) (sym (named_at game.objects objects grid x y same))

pub same_end : (game : GameParts) (order : Order) (grid : Grid) (recorded : List (List (List ℕ))) (k : ℕ) → grid.width * grid.height ≤ k → length recorded ≡ grid.width * grid.height → same_from game order grid recorded k ≡ true
same_end game order grid recorded k h size = grind (arith, common_steps, length-sets_in, drop_all)

pub length-texts_in : (game : GameParts) (order : Order) (grid : Grid) → length (texts_in game order grid) ≡ grid.width * grid.height
length-texts_in game order grid = length-map (sets_in game order grid) text_of_names ∙ length-sets_in game order grid

-- the text of the cell of a number
pub text_at_number : (game : GameParts) (order : Order) (grid : Grid) (k x y : ℕ) → k < grid.width * grid.height → x ≡ column_of order grid k → y ≡ row_of order grid k
    → get_or (texts_in game order grid) k [] ≡ text_of_names (set_of (standing_names game.objects grid (x, y)))
text_at_number game order grid k x y h e f = grind (arith, common_steps, length-sets_in game order grid, get_or-map text_of_names (sets_in game order grid) k, set_at game order grid k x y h e f)
