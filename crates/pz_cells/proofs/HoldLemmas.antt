-- What holds in a cell, by sets.
use Rattle.pz_cells.proofs.Common.{cases_Bool, ◌≡◌, inl, inr, ℕ, suc, ◌<◌, ◌≤◌, List, [], ◌∷◌, Option, Some, None, Bool, true, false, not, cond, length, get_or, arith, ap, sym, ◌∙◌, refl, subst, ◌*◌, ◌/◌, ◌%◌, ◌&&◌, nat_eq, All, IsTrue, ◌↔◌, cases_lt, eqb-true, get_or_past, get_or-map-range_with_len, length-map-range_with_len, member, IsWithin, AreApart, Piece, Dir, Word, Item, AreOf, standing, names, placed_on, is_toward, flag, heads, heading_in, IsProper, place_of, cell_of, AreLawful, each_number, flag_of, dir_bit-low, Masks, toward, is_still, asks_toward, asks_still, IsLow, AreMasksOf, begins, list_any, Layering, IsLayering, Up, Down, Left, Right, Action}
use Rattle.pz_game.specs.declared.limits.TheConstants.{MOST_LAYERS, MOST_OBJECTS}
use Rattle.pz_game.specs.declared.pattern.Word.TheVariants.{Present, Still, Toward, Absent}
use Rattle.std.proofs.lemmas.List.Folds.{list_any_at}
use Rattle.std.proofs.lemmas.List.Sums.{AllPass-from_list_all, list_all-from_AllPass}
use Rattle.pz_cells.specs.Pattern.{word_holds, item_holds, pattern_holds}
use Rattle.pz_cells.proofs.SameLemmas.{same_dir_is, same_dir_self}
use Rattle.pz_cells.proofs.CellLemmas.{OnItsLayer, standing_on_layer, standing_none}
use Rattle.pz_cells.proofs.PlaceLemmas.{place_some, first_toward}

pub place_seen : (depth : ℕ) (layers objects movement : List ℕ) (layer : ℕ) → layer < depth → get_or (cell_of depth layers objects movement) layer None ≡ place_of layers objects movement layer
place_seen depth layers objects movement layer low = get_or-map-range_with_len (place_of layers objects movement) 0 depth layer layer None low (omega arith)

-- past the layers nothing stands
pub place_everywhere : (depth : ℕ) (layers objects movement : List ℕ) (layer : ℕ) → All (λ l. l < depth) layers → AreLawful layers objects movement → get_or (cell_of depth layers objects movement) layer None ≡ place_of layers objects movement layer
place_everywhere depth layers objects movement layer low lawful = grind (arith, cases_lt layer depth, get_or_past (cell_of depth layers objects movement) layer None, length-map-range_with_len (place_of layers objects movement) 0 depth, place_seen depth layers objects movement layer, lawful.shows layer, lawful.of_game, low)

-- each object of the seen cell stands on its layer
pub on_its_layer : (depth : ℕ) (layers objects movement : List ℕ) → AreLawful layers objects movement → OnItsLayer layers (cell_of depth layers objects movement)
on_its_layer depth layers objects movement lawful layer = grind (arith, cases_lt layer depth, get_or_past (cell_of depth layers objects movement) layer None, length-map-range_with_len (place_of layers objects movement) 0 depth, place_seen depth layers objects movement layer, lawful.shows layer, lawful.of_game)

-- what the seen cell says of an object
abbrev pub standing_by : Bool → Option Dir → Option (Option Dir)
standing_by there heading = cond there (Some heading) None

pub standing_seen : (depth : ℕ) (layers objects movement : List ℕ) (object : ℕ) → All (λ layer. layer < depth) layers → AreLawful layers objects movement → standing (cell_of depth layers objects movement) object ≡ standing_by (member objects object) (heading_in movement (get_or layers object 0))
standing_seen depth layers objects movement object low lawful =
    let cell = cell_of depth layers objects movement in
    let all = on_its_layer depth layers objects movement lawful in
    let layer = get_or layers object 0 in
    let piece : Piece = record { object = object; heading = heading_in movement layer } in
    let seen = place_seen depth layers objects movement layer in
    elim (cases_Bool (member objects object)) [
      | inl there ↦ grind (arith, there, standing_on_layer layers cell piece all (seen (low object 0 (lawful.of_game object there)) ∙ sym (place_some layers objects movement layer object lawful there refl)))
      | inr none ↦ grind (arith, none, standing_none cell object (λ k. grind (arith, place_everywhere depth layers objects movement k low lawful, lawful.shows k, none)))
    ]

-- the directions of a layer are its heading
pub heads_toward : (layers objects movement : List ℕ) (layer : ℕ) (dir : Dir) → AreLawful layers objects movement → heads movement layer dir ≡ is_toward (heading_in movement layer) dir
heads_toward layers objects movement layer dir lawful = grind (arith, lawful.shows layer, first_toward (heads movement layer))

-- ---- what the items of a cell ask of the words
-- a heading without a direction
pub none_toward : (heading : Option Dir) → ((dir : Dir) → is_toward heading dir ≡ false) → heading ≡ None
none_toward heading h = grind (arith, h Up, h Down, h Left, h Right, h Action)

-- what a word asks: whether its object is there, and how its layer heads
abbrev pub Meets : Word → Bool → (Dir → Bool) → Type 0
Meets word there heads_so =
    (names word ≡ true → there ≡ true) × (not (names word) ≡ true → there ≡ false) × ((dir : Dir) → is_toward (toward true word) dir ≡ true → heads_so dir ≡ true) × (is_still word ≡ true → (dir : Dir) → heads_so dir ≡ false)

met_word : (word : Word) (there : Bool) (heading : Option Dir) (heads_so : Dir → Bool) → ((dir : Dir) → heads_so dir ≡ is_toward heading dir) → Meets word there heads_so → word_holds word (standing_by there heading) ≡ true
met_word Absent there heading heads_so is m = grind (arith, m.1 refl)
met_word Present there heading heads_so is m = grind (arith, m.0 refl)
met_word Still there heading heads_so is m = grind (arith, m.0 refl, none_toward heading (λ dir. sym (is dir) ∙ m.3 refl dir))
met_word (Toward dir) there heading heads_so is m = grind (arith, m.0 refl, sym (is dir) ∙ m.2 dir (same_dir_self dir))

met_by : (word : Word) (there : Bool) (heading : Option Dir) (heads_so : Dir → Bool) → ((dir : Dir) → heads_so dir ≡ is_toward heading dir) → word_holds word (standing_by there heading) ≡ true → Meets word there heads_so
met_by word there heading heads_so is h = (λ n. grind arith, λ n. grind arith, λ dir t. is dir ∙ grind (arith, same_dir_is), λ s dir. is dir ∙ grind arith)

-- a test of some items and of a number that one of them has
asks_at : (test : Item → Bool) (number_of : Item → ℕ) (items : List Item) (k : ℕ) (d : Item) → k < length items → test (get_or items k d) ≡ true → list_any (λ item. test item && nat_eq (number_of item) (number_of (get_or items k d))) items ≡ true
asks_at test number_of items k d within t = grind (arith, t, list_any_at (λ item. test item && nat_eq (number_of item) (number_of (get_or items k d))) items k d)

pub asked_by : (P : ℕ → Type 0) (test : Item → Bool) (number_of : Item → ℕ) (items : List Item) (number : ℕ) → All (λ item. test item ≡ true → P (number_of item)) items → list_any (λ item. test item && nat_eq (number_of item) number) items ≡ true → P number
asked_by P test number_of [] number all e = cc
asked_by P test number_of (x ∷ xs) number all e = grind (arith, e, eqb-true (number_of x) number, all 0 x (omega arith), asked_by P test number_of xs number (λ k d within. all (suc k) d (omega arith)))

-- the sets of a cell of a rule are met by those of a cell
abbrev pub AreMetBy : List ℕ → List ℕ → Masks → Type 0
AreMetBy objects movement masks = (IsWithin masks.present objects × AreApart masks.absent objects) × (IsWithin masks.required movement × AreApart masks.forbidden movement)

module _ (depth : ℕ) (layers objects movement : List ℕ) (items : List Item) (low : All (λ layer. layer < depth) layers) (lawful : AreLawful layers objects movement) (are : AreOf layers items) where
  -- an item holds in the seen cell
  item_seen : (item : Item) → get_or layers item.object 0 ≡ item.layer → item_holds (cell_of depth layers objects movement) item ≡ word_holds item.word (standing_by (member objects item.object) (heading_in movement item.layer))
  item_seen item on = grind (arith, standing_seen depth layers objects movement item.object low lawful, on)

  -- what each item asks is met where all hold
  pub met_all : pattern_holds (cell_of depth layers objects movement) items ≡ true → All (λ item. Meets item.word (member objects item.object) (heads movement item.layer)) items
  met_all holds k d within =
      let item = get_or items k d in
      met_by item.word _ _ _ (λ dir. heads_toward layers objects movement item.layer dir lawful) (sym (item_seen item (are k d within).layer) ∙ AllPass-from_list_all (item_holds (cell_of depth layers objects movement)) items holds k d within)

  pub holds_by_sets : (masks : Masks) → AreMasksOf items masks → AreMetBy objects movement masks ↔ (pattern_holds (cell_of depth layers objects movement) items ≡ true)
  holds_by_sets masks m = (
    λ h. list_all-from_AllPass (item_holds (cell_of depth layers objects movement)) items (λ k d within.
        let item = get_or items k d in
        item_seen item (are k d within).layer ∙ met_word item.word _ _ (heads movement item.layer) (λ dir. heads_toward layers objects movement item.layer dir lawful) (
          λ n. h.0.0 item.object (m.present item.object ∙ asks_at (λ it. names it.word) (λ it. it.object) items k d within n),
          λ n. h.0.1 item.object (m.absent item.object ∙ asks_at (λ it. not (names it.word)) (λ it. it.object) items k d within n),
          λ dir t. h.1.0 (flag item.layer dir) (m.required item.layer dir ∙ asks_at (λ it. is_toward (toward true it.word) dir) (λ it. it.layer) items k d within t),
          λ s dir. h.1.1 (flag item.layer dir) (m.forbidden item.layer dir ∙ asks_at (λ it. is_still it.word) (λ it. it.layer) items k d within s),
        )),
    λ h. (let met = met_all h in (
      (
        λ o n. asked_by (λ k. member objects k ≡ true) (λ it. names it.word) (λ it. it.object) items o (λ k d within. (met k d within).0) (sym (m.present o) ∙ n),
        λ o n. asked_by (λ k. member objects k ≡ false) (λ it. not (names it.word)) (λ it. it.object) items o (λ k d within. (met k d within).1) (sym (m.absent o) ∙ n),
      ),
      (
        each_number (λ mine theirs. theirs ≡ true → mine ≡ true) movement masks.required lawful.proper m.proper_required (λ z. z)
            (λ l dir q. asked_by (λ k. heads movement k dir ≡ true) (λ it. is_toward (toward true it.word) dir) (λ it. it.layer) items l (λ k d within. (met k d within).2 dir) (sym (m.required l dir) ∙ q)),
        each_number (λ mine theirs. theirs ≡ true → mine ≡ false) movement masks.forbidden lawful.proper m.proper_forbidden (λ z. refl)
            (λ l dir q. asked_by (λ k. heads movement k dir ≡ false) (λ it. is_still it.word) (λ it. it.layer) items l (λ k d within s. (met k d within).3 s dir) (sym (m.forbidden l dir) ∙ q)),
      ),
    )),
  )

-- a cell of a rule of the game is within the limits of games
pub low_of_game : (depth : ℕ) (layers : List ℕ) (items : List Item) → All (λ layer. layer < depth) layers → length layers ≤ MOST_OBJECTS → depth ≤ MOST_LAYERS → AreOf layers items → All IsLow items
low_of_game depth layers items low few shallow are k d within =
    let is = are k d within in
    (omega (arith, is.object, few), omega (arith, low (get_or items k d).object 0 is.object, is.layer, shallow))

-- two tests that decide the parts of what a third decides
pub both_decide : {A B : Type 0} (x y p : Bool) → (IsTrue x ↔ A) → (IsTrue y ↔ B) → ((A × B) ↔ (p ≡ true)) → x ≡ true → y ≡ p
both_decide x y p a b h e = grind (arith, a, b, h)

pub first_decides : {A B : Type 0} (x p : Bool) → (IsTrue x ↔ A) → ((A × B) ↔ (p ≡ true)) → x ≡ false → x ≡ p
first_decides x p a h e = grind (arith, a, h)

-- the directions of layers below a depth
directions_fit : (set : List ℕ) (depth count : ℕ) (asked : ℕ → Dir → Bool) → IsProper set → ((layer : ℕ) (dir : Dir) → heads set layer dir ≡ asked layer dir) → ((layer : ℕ) (dir : Dir) → asked layer dir ≡ true → layer < depth) → depth ≤ 25 * count → (number : ℕ) → member set number ≡ true → number / 128 < count
directions_fit set depth count asked proper is low room number here = elim (cases_lt (number % 128) 125) [
  | inl inside ↦ (let f = flag_of number inside in
      omega (arith, f.2, dir_bit-low f.1, low f.0 f.1 (sym (is f.0 f.1) ∙ ap (member set) f.2 ∙ here), room))
  | inr outside ↦ absurd (grind (arith, proper number outside, here))
]

-- the item that is placed on a layer is of that layer and names its object
pub placed_is : (layers : List ℕ) (layer : ℕ) (right : List Item) (item : Item) → AreOf layers right → placed_on layer right ≡ Some item → (item.object < length layers) × (get_or layers item.object 0 ≡ layer) × (names item.word ≡ true)
placed_is layers layer [] item are e = cc
placed_is layers layer (x ∷ right) item are e = grind (arith, e, are 0 x (omega arith), placed_is layers layer right item (λ k d h. are (suc k) d (omega arith)))

-- the sets of a cell of a rule of the game, without a number beyond so many words
pub record FitWords (items : List Item) (masks : Masks) (count : ℕ) : Type 0 where
  pub are : AreMasksOf items masks
  pub present : (object : ℕ) → member masks.present object ≡ true → object / 128 < count
  pub absent : (object : ℕ) → member masks.absent object ≡ true → object / 128 < count
  pub required : (number : ℕ) → member masks.required number ≡ true → number / 128 < count
  pub forbidden : (number : ℕ) → member masks.forbidden number ≡ true → number / 128 < count
  pub headed : (number : ℕ) → member masks.headed number ≡ true → number / 128 < count

pub masks_fit : (N : ℕ) (layering : Layering) (items : List Item) (masks : Masks) → IsLayering N layering → AreOf layering.layers items → (All IsLow items → AreMasksOf items masks) → FitWords items masks N
masks_fit N layering items masks law are of_low = record {
  are = m;
  present = λ object here. object_fits (λ it. names it.word) object (sym (m.present object) ∙ here);
  absent = λ object here. object_fits (λ it. not (names it.word)) object (sym (m.absent object) ∙ here);
  required = directions_fit masks.required layering.depth N (λ layer dir. asks_toward layer dir items) m.proper_required m.required (λ layer dir. on_layer (λ it. is_toward (toward true it.word) dir) layer) law.movement_room;
  forbidden = directions_fit masks.forbidden layering.depth N (λ layer dir. asks_still layer items) m.proper_forbidden m.forbidden (λ layer dir. on_layer (λ it. is_still it.word) layer) law.movement_room;
  headed = directions_fit masks.headed layering.depth N (λ layer dir. begins dir (placed_on layer items)) m.proper_headed m.headed (λ layer dir. by_found layer dir (placed_on layer items) refl) law.movement_room;
} where
  m : AreMasksOf items masks
  m = of_low (low_of_game layering.depth layering.layers items law.layered law.few law.shallow are)

  object_fits : (test : Item → Bool) (object : ℕ) → list_any (λ item. test item && nat_eq item.object object) items ≡ true → object / 128 < N
  object_fits test object e = (let in_game = asked_by (λ (n : ℕ). n < length layering.layers) test (λ item. item.object) items object (λ k d within t. (are k d within).object) e in omega (arith, in_game, law.room))

  on_layer : (test : Item → Bool) (layer : ℕ) → list_any (λ item. test item && nat_eq item.layer layer) items ≡ true → layer < layering.depth
  on_layer test layer = asked_by (λ (n : ℕ). n < layering.depth) test (λ item. item.layer) items layer (λ k d within t. subst (λ (n : ℕ). n < layering.depth) (are k d within).layer (law.layered (get_or items k d).object 0 (are k d within).object))

  by_found : (layer : ℕ) (dir : Dir) (found : Option Item) → placed_on layer items ≡ found → begins dir found ≡ true → layer < layering.depth
  by_found layer dir None e t = cc
  by_found layer dir (Some item) e t = (let p = placed_is layering.layers layer items item are e in subst (λ (n : ℕ). n < layering.depth) p.1 (law.layered item.object 0 p.0))
