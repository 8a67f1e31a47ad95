-- What a movement marks: what has landed stays, so in the end each line holds what was marked for it.
use Rattle.pz_grid.proofs.Common.{IsStillInColumn, IsStillInRow, Grid, IsMore, IsMove, IsStill, IsWidened, Item, KeepsStill, Leaves, LevelState, List, Mover, Option, Piece, Some, [], ap, arith, with_piece_moved, column_of, eq-eqb, false, get_or, in_column, in_pass, in_row, inl, inr, is_in, length, list_any_more, map, moving_piece, names, names_object, nat_eq, place_at, row_of, spot, still_piece, still_place, still_level, subst, sym, take, true, ℕ, ◌&&◌, ◌*◌, ◌+◌, ◌<◌, ◌∙◌, ◌≡◌}
use Rattle.pz_grid.proofs.StayLemmas.{still-moved_to}
use Rattle.pz_grid.proofs.MarkLemmas.{more_only, in_line_from, is_in_at, is_in_cells, still_same}

-- a piece is marked where it goes, and goes there
pub moves_piece : (old marked new : LevelState) (x y : ℕ) (mover : Mover) (next : ℕ × ℕ) → Leaves old.grid x y mover next → marked.grid ≡ old.grid → IsMore old.row_marks marked.row_marks next.1 (nat_eq mover.object) → IsMore old.column_marks marked.column_marks next.0 (nat_eq mover.object)
    → new.grid ≡ with_piece_moved marked.grid x y mover next.0 next.1 → new.row_marks ≡ marked.row_marks → new.column_marks ≡ marked.column_marks → place_at new.grid next.0 next.1 mover.layer ≡ Some (still_piece mover.object) → IsMove old new
moves_piece old marked new x y mover next leaves g2 r2 c2 g3 r3 c3 there =
    let made : new.grid ≡ with_piece_moved old.grid x y mover next.0 next.1 = rw g2 at g3 in
    let wide : new.grid.width ≡ old.grid.width = ap (λ (g : Grid). g.width) made in
    let high : new.grid.height ≡ old.grid.height = ap (λ (g : Grid). g.height) made in
    record {
      width = wide;
      height = high;
      still = subst (KeepsStill old.grid) (sym made) (still-moved_to (in_pass old.grid false) (spot x y mover.layer) (moving_piece mover) next leaves.there leaves.goes);
      rows = λ line object e. elim (more_only old.row_marks marked.row_marks next.1 mover.object r2 line object (rw r3 at e)) [
        | inl before ↦ inl before
        | inr (same, is) ↦ inr (record { x = next.0; layer = mover.layer; inside = omega (arith, wide, leaves.on_map.0); there = rw (same, ← is) there })
      ];
      columns = λ line object e. elim (more_only old.column_marks marked.column_marks next.0 mover.object c2 line object (rw c3 at e)) [
        | inl before ↦ inl before
        | inr (same, is) ↦ inr (record { y = next.1; layer = mover.layer; inside = omega (arith, high, leaves.on_map.1); there = rw (same, ← is) there })
      ];
    }

-- what stands still is there once all is stilled
still_is_in : (cells : List (List (Option Piece))) (index layer object : ℕ) → IsStill cells index layer object → is_in (get_or (map (map still_place) cells) index []) object ≡ true
still_is_in cells index layer object h =
    is_in_cells still_place still_same cells index object ∙ is_in_at (get_or cells index []) layer object (grind (arith, h, eq-eqb object object))

-- after a movement each set has nothing but what it had and what its line has now
pub widened_move : (old settled new : LevelState) → IsMove old settled → new.grid ≡ still_level settled.grid → new.row_marks ≡ settled.row_marks → new.column_marks ≡ settled.column_marks → IsWidened old new (in_row new.grid) (in_column new.grid)
widened_move old settled new h g r d =
    let here = λ (line object : ℕ) (s : IsStillInRow settled.grid line object). in_line_from (still_level settled.grid) (row_of line) s.x object s.inside (still_is_in settled.grid.cells (line * settled.grid.width + s.x) s.layer object s.there) in
    let below = λ (line object : ℕ) (s : IsStillInColumn settled.grid line object). in_line_from (still_level settled.grid) (column_of line) s.y object s.inside (still_is_in settled.grid.cells (s.y * settled.grid.width + line) s.layer object s.there) in
    record { rows = λ line object e. grind (arith, g, r, e, h.rows line object, here line object); columns = λ line object e. grind (arith, g, d, e, h.columns line object, below line object) }

-- what the right of a rule places is marked
pub more_item : (old now new : List (List ℕ)) (line : ℕ) (items : List Item) (i : ℕ) (item : Item) → i < length items → get_or items i item ≡ item → IsMore old now line (λ object. names_object object (take i items)) → IsMore now new line (λ object. names item.word && nat_eq item.object object) → IsMore old new line (λ object. names_object object (take (i + 1) items))
more_item old now new line items i item within is before more other object =
    grind (arith, list_any_more (λ (x : Item). names x.word && nat_eq x.object object) items i item within, is, before other object, more other object)
