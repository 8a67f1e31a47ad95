-- What a rewriting does to the sets of a cell.
use Rattle.pz_cells.proofs.Common.{IfSome, map, find, option_map, piece_with, first_of, range_with_len, ◌≡◌, ℕ, ◌<◌, List, Option, Some, None, Bool, true, false, cond, not, ◌&&◌, ◌||◌, length, get_or, arith, ap, sym, ◌∙◌, refl, nat_eq, All, is_some, ◌↔◌, or_right, or_parts, length-map-range_with_len, member, Piece, Dir, Word, Item, AreOf, standing, same_cell, is_toward, flag, heads, IsProper, place_of, cell_of, Shows, AreLawful, each_number, names, placed_on, tells_of, tells_movement, heading_of, new_heading, kept, piece_after, rewritten_place, rewritten_cell, Masks, toward, begins, settles, AreMasksOf, ends, is_displaced}
use Rattle.pz_cells.proofs.SameLemmas.{same_cell_is, same_cell_self}
use Rattle.pz_cells.proofs.PlaceLemmas.{lawful_from_shows, cell_shown}
use Rattle.pz_game.specs.Items.{names_object, forbids_object}
use Rattle.pz_cells.proofs.HoldLemmas.{place_everywhere, standing_seen, placed_is}

-- the left names the object as present, or the right has it under `no`
abbrev pub is_removed : List Item → List Item → ℕ → Bool
is_removed left right object = names_object object left || forbids_object object right

-- an object of the cell leaves its layer still: it is removed, and the right places nothing on the layer
abbrev pub leaves : List ℕ → List ℕ → List Item → List Item → ℕ → Bool
leaves layers objects left right object = member objects object && not (is_displaced layers right object) && is_removed left right object

-- where an object is placed, its direction is the definition's
new_toward : (word : Word) (told : Bool) (here : Option Piece) (old : Bool) (dir : Dir) → names word ≡ true → old ≡ is_toward (heading_of here) dir → ((old && not (told || tells_movement word)) || is_toward (toward true word) dir) ≡ is_toward (new_heading word told here) dir
new_toward word told here old dir n e = grind arith

toward_shown : (layers : List ℕ) (has : ℕ → Bool) (toward : Dir → Bool) (layer : ℕ) (place : Option Piece) (dir : Dir) → Shows layers has toward layer place → toward dir ≡ is_toward (heading_of place) dir
toward_shown layers has toward layer place dir h = grind arith

-- the directions that end, by the masks of the two cells
ends_by : (told : Bool) (found : Option Item) → (settles found || (told && is_some found)) ≡ ends told found
ends_by told found = grind arith

-- what the words of a rewritten cell are
pub record AreRewritten (layers : List ℕ) (left right : List Item) (l r : Masks) (objects movement objects_new mid movement_new : List ℕ) : Type 0 where
  pub are : AreOf layers right
  pub ml : AreMasksOf left l
  pub mr : AreMasksOf right r
  pub lawful : AreLawful layers objects movement
  pub is_new : (object : ℕ) → object < length layers → member objects_new object ≡ ((member objects object && not (is_displaced layers right object || is_removed left right object)) || member r.placed object)
  pub of_game : (object : ℕ) → member objects_new object ≡ true → object < length layers
  pub is_mid : (number : ℕ) → member mid number ≡ ((member movement number && not (member r.settled number || (member l.told number && member r.covered number))) || member r.headed number)
  pub ended : (object : ℕ) (dir : Dir) → leaves layers objects left right object ≡ true → heads movement_new (get_or layers object 0) dir ≡ false
  pub others : (layer : ℕ) (dir : Dir) → ((object : ℕ) → leaves layers objects left right object ≡ true → get_or layers object 0 ≡ layer → ⊥) → heads movement_new layer dir ≡ heads mid layer dir

-- what is placed is of the game
pub placed_within : (layers : List ℕ) (right : List Item) (r : Masks) → AreOf layers right → AreMasksOf right r → (object : ℕ) → member r.placed object ≡ true → object < length layers
placed_within layers right r are mr object here = (let p = mr.placed_only object here in grind (arith, p.3, placed_is layers p.0 right p.1 are p.2))

-- words that answer alike show one cell
pub cell_alike : (depth : ℕ) (layers objects movement objects_new movement_new : List ℕ) → ((object : ℕ) → member objects_new object ≡ member objects object) → ((layer : ℕ) (dir : Dir) → heads movement_new layer dir ≡ heads movement layer dir) → cell_of depth layers objects_new movement_new ≡ cell_of depth layers objects movement
cell_alike depth layers objects movement objects_new movement_new same_objects same_heads =
    λ i. map (λ layer. option_map (piece_with (first_of (λ dir. same_heads layer dir i))) (find (λ object. same_objects object i && nat_eq (get_or layers object 0) layer) (range_with_len 0 (length layers)))) (range_with_len 0 depth)

-- one cell is shown by words that answer alike
pub member_seen : (depth : ℕ) (layers objects movement : List ℕ) (object : ℕ) → All (λ l. l < depth) layers → AreLawful layers objects movement → member objects object ≡ is_some (standing (cell_of depth layers objects movement) object)
member_seen depth layers objects movement object low lawful = grind (arith, standing_seen depth layers objects movement object low lawful)

pub heads_seen : (depth : ℕ) (layers objects movement : List ℕ) (layer : ℕ) (dir : Dir) → All (λ l. l < depth) layers → AreLawful layers objects movement → heads movement layer dir ≡ is_toward (heading_of (get_or (cell_of depth layers objects movement) layer None)) dir
heads_seen depth layers objects movement layer dir low lawful = grind (arith, lawful.shows layer, place_everywhere depth layers objects movement layer low lawful)

pub objects_alike : (depth : ℕ) (layers objects movement objects_new movement_new : List ℕ) → All (λ l. l < depth) layers → AreLawful layers objects movement → AreLawful layers objects_new movement_new → cell_of depth layers objects_new movement_new ≡ cell_of depth layers objects movement → (object : ℕ) → member objects_new object ≡ member objects object
objects_alike depth layers objects movement objects_new movement_new low lawful lawful_new e object = grind (arith, e, member_seen depth layers objects_new movement_new object low lawful_new, member_seen depth layers objects movement object low lawful)

pub heads_alike : (depth : ℕ) (layers objects movement objects_new movement_new : List ℕ) → All (λ l. l < depth) layers → AreLawful layers objects movement → AreLawful layers objects_new movement_new → cell_of depth layers objects_new movement_new ≡ cell_of depth layers objects movement → (layer : ℕ) (dir : Dir) → heads movement_new layer dir ≡ heads movement layer dir
heads_alike depth layers objects movement objects_new movement_new low lawful lawful_new e layer dir = grind (arith, e, heads_seen depth layers objects_new movement_new layer dir low lawful_new, heads_seen depth layers objects movement layer dir low lawful)

decided : (b : Bool) (x y : List (Option Piece)) → (b ≡ false → x ≡ y) → (x ≡ y → b ≡ false) → b ≡ not (same_cell x y)
decided b x y f g = grind (arith, f, g, same_cell_self x, same_cell_is x y)

module _ (layers : List ℕ) (left right : List Item) (l r : Masks) (objects movement objects_new mid movement_new : List ℕ) (w : AreRewritten layers left right l r objects movement objects_new mid movement_new) where
  -- what is placed stands alone on its layer
  placed_here : (object : ℕ) → member r.placed object ≡ true → IfSome (placed_on (get_or layers object 0) right) (λ item. item.object ≡ object) × (is_some (placed_on (get_or layers object 0) right) ≡ true)
  placed_here object h =
      let p = w.mr.placed_only object h in
      grind (arith, p.2, p.3, placed_is layers p.0 right p.1 w.are p.2)

  others : (layer : ℕ) (dir : Dir) → ((object : ℕ) → leaves layers objects left right object ≡ true → get_or layers object 0 ≡ layer → ⊥) → heads movement_new layer dir ≡ ((heads movement layer dir && not (ends (tells_of layer left) (placed_on layer right))) || begins dir (placed_on layer right))
  others layer dir none = w.others layer dir none ∙ grind (arith, w.is_mid (flag layer dir), w.mr.settled layer dir, w.ml.told layer dir, w.mr.covered layer dir, w.mr.headed layer dir, ends_by (tells_of layer left) (placed_on layer right))

  -- each layer shows what the definition says of it
  rewritten_shows : (layer : ℕ) (here : Option Piece) → Shows layers (member objects) (heads movement layer) layer here → Shows layers (member objects_new) (heads movement_new layer) layer (rewritten_place left right layer here)
  rewritten_shows layer here shown = by_placed (placed_on layer right) refl where
    stays : placed_on layer right ≡ None → (object : ℕ) → get_or layers object 0 ≡ layer → object < length layers → member objects_new object ≡ (member objects object && not (is_removed left right object))
    stays e object on low = grind (arith, w.is_new object low, placed_here object, on, e)

    toward_kept : placed_on layer right ≡ None → ((object : ℕ) → leaves layers objects left right object ≡ true → get_or layers object 0 ≡ layer → ⊥) → (dir : Dir) → heads movement_new layer dir ≡ heads movement layer dir
    toward_kept e none dir = grind (arith, others layer dir none, e)

    by_test : placed_on layer right ≡ None → (piece : Piece) → Shows layers (member objects) (heads movement layer) layer (Some piece) → (b : Bool) → is_removed left right piece.object ≡ b → Shows layers (member objects_new) (heads movement_new layer) layer (cond b None (Some piece))
    by_test e piece shown true f = (
      λ object new on. grind (arith, stays e object on (w.of_game object new), new, shown.2 object, on, f),
      λ dir. ap (λ (k : ℕ). heads movement_new k dir) (sym shown.1) ∙ w.ended piece.object dir (grind (arith, shown.0, shown.1, f, e)),
    )
    by_test e piece shown false f = (
      grind (arith, stays e piece.object shown.1 (w.lawful.of_game piece.object shown.0), shown.0, f),
      shown.1,
      λ object new on. shown.2 object (grind (arith, stays e object on (w.of_game object new), new)) on,
      λ dir. toward_kept e (λ object g on. grind (arith, shown.2 object, on, g, f)) dir ∙ shown.3 dir,
    )

    by_here : placed_on layer right ≡ None → (place : Option Piece) → Shows layers (member objects) (heads movement layer) layer place → Shows layers (member objects_new) (heads movement_new layer) layer (kept left right place)
    by_here e None shown = (
      λ object new on. shown.0 object (grind (arith, stays e object on (w.of_game object new), new)) on,
      λ dir. toward_kept e (λ object g on. grind (arith, shown.0 object, on, g)) dir ∙ shown.1 dir,
    )
    by_here e (Some piece) shown = by_test e piece shown (is_removed left right piece.object) refl

    by_placed : (found : Option Item) → placed_on layer right ≡ found → Shows layers (member objects_new) (heads movement_new layer) layer (piece_after found (tells_of layer left) left right here)
    by_placed None e = by_here e here shown
    by_placed (Some item) e =
        let is = placed_is layers layer right item w.are e in (
          w.is_new item.object is.0 ∙ or_right _ _ (w.mr.placed layer item e),
          is.1,
          λ object new on. grind (arith, w.is_new object (w.of_game object new), new, e, on, placed_here object),
          λ dir. others layer dir (λ object g on. grind (arith, g, on, e)) ∙ ap (λ (o : Option Item). (heads movement layer dir && not (ends (tells_of layer left) o)) || begins dir o) e ∙ new_toward item.word (tells_of layer left) here (heads movement layer dir) dir is.2 (toward_shown layers (member objects) (heads movement layer) layer here dir shown),
        )

  -- the new words are lawful, and what is seen of them is the definition's cell
  pub lawful_rewritten : IsProper movement_new → AreLawful layers objects_new movement_new
  lawful_rewritten proper =
      lawful_from_shows layers objects_new movement_new (λ layer. rewritten_place left right layer (place_of layers objects movement layer)) w.of_game (λ layer. rewritten_shows layer (place_of layers objects movement layer) (w.lawful.shows layer)) proper

  pub cell_rewritten : (depth : ℕ) → All (λ l. l < depth) layers → cell_of depth layers objects_new movement_new ≡ rewritten_cell left right (cell_of depth layers objects movement)
  cell_rewritten depth low =
      let here = λ (layer : ℕ). place_everywhere depth layers objects movement layer low w.lawful in
      let long = length-map-range_with_len (place_of layers objects movement) 0 depth in
      cell_shown depth layers objects_new movement_new (λ layer. rewritten_place left right layer (place_of layers objects movement layer)) w.of_game (λ layer. rewritten_shows layer (place_of layers objects movement layer) (w.lawful.shows layer))
      ∙ (λ i. map (λ layer. rewritten_place left right layer (sym (here layer) i)) (range_with_len 0 (sym long i)))

  -- the directions between have no bits between the fields
  pub mid_proper : IsProper mid
  mid_proper number high = grind (arith, w.is_mid number, w.lawful.proper number high, w.mr.proper_headed number high)

  -- whether the cell changed
  pub changed_by : (depth : ℕ) (moved piece_after : Bool) → All (λ layer. layer < depth) layers → IsProper movement_new → ((moved ≡ false) ↔ ((number : ℕ) → member mid number ≡ member movement number)) → ((piece_after ≡ false) ↔ ((number : ℕ) → member objects_new number ≡ member objects number))
      → (moved || piece_after) ≡ not (same_cell (rewritten_cell left right (cell_of depth layers objects movement)) (cell_of depth layers objects movement))
  changed_by depth moved piece_after low proper is_moved is_replaced =
      decided (moved || piece_after) (rewritten_cell left right (cell_of depth layers objects movement)) (cell_of depth layers objects movement) forth back where
        settled : ((object : ℕ) → member objects_new object ≡ member objects object) → (layer : ℕ) (dir : Dir) → heads movement_new layer dir ≡ heads mid layer dir
        settled same layer dir = w.others layer dir (λ object g on. grind (arith, g, w.is_new object, w.lawful.of_game object, same object, placed_here object))

        forth : (moved || piece_after) ≡ false → rewritten_cell left right (cell_of depth layers objects movement) ≡ cell_of depth layers objects movement
        forth n =
            let parts = or_parts moved piece_after n in
            let same = is_replaced.0 parts.1 in
            sym (cell_rewritten depth low) ∙ cell_alike depth layers objects movement objects_new movement_new same (λ layer dir. settled same layer dir ∙ is_moved.0 parts.0 (flag layer dir))

        back : rewritten_cell left right (cell_of depth layers objects movement) ≡ cell_of depth layers objects movement → (moved || piece_after) ≡ false
        back h =
            let lawful_new = lawful_rewritten proper in
            let same = objects_alike depth layers objects movement objects_new movement_new low w.lawful lawful_new (cell_rewritten depth low ∙ h) in
            let heads_same = heads_alike depth layers objects movement objects_new movement_new low w.lawful lawful_new (cell_rewritten depth low ∙ h) in
            ap (λ b. b || piece_after) (is_moved.1 (each_number (λ mine theirs. mine ≡ theirs) mid movement mid_proper w.lawful.proper refl (λ layer dir. sym (settled same layer dir) ∙ heads_same layer dir))) ∙ is_replaced.1 same
