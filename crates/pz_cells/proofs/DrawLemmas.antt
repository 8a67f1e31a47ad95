-- Cells that are drawn and filled.
use Rattle.pz_cells.proofs.Common.{fold, drop, at_drop_more, range_with_len, true, arith, ◌≡◌, ℕ, ◌+◌, ◌<◌, List, [], ◌∷◌, ◌++◌, map, take, Option, None, false, length, get_or, sym, ◌∙◌, replicate, common_steps, glyph_objects, map_more, member, heads, flag, Cell, Piece, empty_cell, cell_of, Shows, AreLawful, Layering, pieces_of_cell, IsSound, All}
use Rattle.std.proofs.lemmas.Option.{slice_get-get_or}
use Rattle.std.proofs.lemmas.List.{map_push}
use Rattle.std.proofs.lemmas.List.FromFn.{length-range_with_len}
use Rattle.std.proofs.lemmas.Simd.{splat_is_map}
use Rattle.pz_game.specs.declared.denotation.Denotation.{Denotation}
use Rattle.pz_game.specs.declared.game.GameParts.{GameParts}
use Rattle.std.proofs.lemmas.List.Elements.{All-push, All-same}
use Rattle.pz_cells.proofs.PlaceLemmas.{lawful_from_shows, cell_shown}

-- words of which no bit is set have no number
pub no_number : (n number : ℕ) → member (replicate n 0) number ≡ false
no_number n number = grind (arith, common_steps)

empty_shows : (layers : List ℕ) (n layer : ℕ) → Shows layers (member (replicate n 0)) (heads (replicate n 0) layer) layer None
empty_shows layers n layer = (λ object here on. grind (arith, no_number n object, here), λ dir. no_number n (flag layer dir))

pub seen_empty : (depth : ℕ) (layers : List ℕ) (n : ℕ) → AreLawful layers (replicate n 0) (replicate n 0) × (cell_of depth layers (replicate n 0) (replicate n 0) ≡ empty_cell depth)
seen_empty depth layers n =
    let of_game : (object : ℕ) → member (replicate n 0) object ≡ true → object < length layers = λ object here. absurd (grind (arith, no_number n object, here)) in (
      lawful_from_shows layers (replicate n 0) (replicate n 0) (λ layer. None) of_game (empty_shows layers n) (λ number high. no_number n number),
      cell_shown depth layers (replicate n 0) (replicate n 0) (λ layer. None) of_game (empty_shows layers n) ∙ sym (splat_is_map (range_with_len 0 depth) depth None (length-range_with_len 0 depth)),
    )

-- one more cell of a glyph
pub record AreGlyphs {N : ℕ} (layering : Layering) (f : ℕ → List (Option Piece)) (numbers : List ℕ) (cells : List (Cell N)) : Type 0 where
  pub sound : All (IsSound layering) cells
  pub cells_are : map (pieces_of_cell layering) cells ≡ map f numbers

pub glyphs_more : {N : ℕ} (layering : Layering) (f : ℕ → List (Option Piece)) (numbers : List ℕ) (index d : ℕ) (cells now : List (Cell N)) (cell : Cell N) → index < length numbers → AreGlyphs layering f (take index numbers) cells → IsSound layering cell → pieces_of_cell layering cell ≡ f (get_or numbers index d) → now ≡ cells ++ cell ∷ [] → AreGlyphs layering f (take (index + 1) numbers) now
glyphs_more layering f numbers index d cells now cell within are sound e is = record {
  sound = All-same (IsSound layering) now (cells ++ cell ∷ []) is (All-push (IsSound layering) cells cell are.sound sound);
  cells_are = grind (arith, is, map_push (pieces_of_cell layering) cells cell, are.cells_are, e, map_more f numbers index d within);
}

-- a glyph's objects, as they are read
pub glyph_read : (game : GameParts) (values : List Denotation) (number : ℕ) (d : Denotation) (objects : List ℕ) → values ≡ game.values → number < length game.values → objects ≡ (get_or values number d).members → glyph_objects game number ≡ objects
glyph_read game values number d objects are within is = grind (arith, are, is, slice_get-get_or game.values number d within)

pub drawn_more : {X : Type 0} (step : X → ℕ → X) (was now whole : X) (all objects : List ℕ) (at : ℕ) → all ≡ objects → at < length objects → now ≡ step was (get_or objects at 0) → fold step was (drop at all) ≡ whole → fold step now (drop (at + 1) all) ≡ whole
drawn_more step was now whole all objects at are low is rest = cc (at_drop_more (fold step was) objects at 0 low)
