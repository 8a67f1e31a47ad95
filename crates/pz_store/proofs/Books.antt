-- Books of cells.
use Rattle.std.proofs.Common.{◌≡◌, ℕ, ◌*◌, ◌<◌, inl, inr, List, [], ◌∷◌, ◌++◌, length, length-append, map, Option, Some, refl, ap, sym, ◌∙◌, subst, arith, All}
use Rattle.std.proofs.lemmas.List.{map-append}
use Rattle.std.proofs.lemmas.List.Elements.{All-append, All-cons, All-head, All-nil, All-tail, All-weaker}
use Rattle.pz_sheet.specs.Grid.{Grid, BareState, IsLawful, SameSize}
use Rattle.pz_store.specs.declared.book.Place.{Place}
use Rattle.pz_store.specs.Book.{AreDistinctCells, CellSeen, HasMore, IsBook, IsFramed, IsPlaceIn, IsUnknown, cell_from, cell_in}
use Rattle.pz_store.specs.Digest.{cell_word}
use Rattle.pz_store.proofs.Listing.{still_there, there, there_before}

-- two levels of the size of a third
pub size_across : (frame a b : Grid) → SameSize frame a → SameSize frame b → SameSize a b
size_across frame a b left right = record { width = right.width ∙ sym left.width; height = right.height ∙ sym left.height; depth = right.depth ∙ sym left.depth; layers = right.layers ∙ sym left.layers }

-- levels of one size have as many cells
pub as_many : (a b : Grid) → IsLawful a → IsLawful b → SameSize a b → length b.cells ≡ length a.cells
as_many a b law other size = other.covers ∙ ap (λ (n : ℕ). n * b.height) size.width ∙ ap (λ (n : ℕ). a.width * n) size.height ∙ sym law.covers

-- a cell stays where it is when a level is added
pub cell_still : (levels : List BareState) (more : BareState) (place : Place) → place.level < length levels → cell_in (levels ++ more ∷ []) place ≡ cell_in levels place
cell_still levels more place low =
    let h = there levels place.level low in
    ap (λ (o : Option BareState). cell_from o place.index) (still_there levels more place.level h.0 h.1 ∙ sym h.1)

-- the cells stay what they are when a level is added
pub cells_still : (frame : Grid) (levels : List BareState) (more : BareState) (objects : ℕ) (places : List Place) → All (IsPlaceIn frame levels objects) places → map (cell_in (levels ++ more ∷ [])) places ≡ map (cell_in levels) places
cells_still frame levels more objects [] all = refl
cells_still frame levels more objects (place ∷ places) all =
    let first = All-head (IsPlaceIn frame levels objects) place places all in
    ap (λ (c : CellSeen). c ∷ map (cell_in (levels ++ more ∷ [])) places) (cell_still levels more place first.level)
    ∙ ap (λ (cs : List CellSeen). cell_in levels place ∷ cs) (cells_still frame levels more objects places (All-tail (IsPlaceIn frame levels objects) place places all))

placed_still : (frame : Grid) (levels : List BareState) (more : BareState) (objects : ℕ) (place : Place) → IsPlaceIn frame levels objects place → IsPlaceIn frame (levels ++ more ∷ []) objects place
placed_still frame levels more objects place is = record {
  level = omega (arith, is.level, length-append levels (more ∷ []));
  index = is.index;
  word = is.word ∙ ap (λ (c : CellSeen). cell_word objects c) (sym (cell_still levels more place is.level));
}

-- a book with one level more
pub with_level : (frame : Grid) (levels : List BareState) (places : List Place) (objects : ℕ) (more : BareState) → IsBook frame levels places objects → IsFramed frame more → IsBook frame (levels ++ more ∷ []) places objects
with_level frame levels places objects more book framed = record {
  framed = All-append (IsFramed frame) levels (more ∷ []) book.framed (All-cons (IsFramed frame) more [] framed (All-nil (IsFramed frame)));
  placed = All-weaker (IsPlaceIn frame levels objects) (IsPlaceIn frame (levels ++ more ∷ []) objects) (λ place is. placed_still frame levels more objects place is) places book.placed;
  distinct = subst AreDistinctCells (sym (cells_still frame levels more objects places book.placed)) book.distinct;
}

distinct_more : (cells : List CellSeen) (new : CellSeen) → AreDistinctCells cells → IsUnknown cells new → AreDistinctCells (cells ++ new ∷ [])
distinct_more cells new distinct unknown number other cell is is_other = elim (there_before cells new number cell is) [
  | inl was ↦ elim (there_before cells new other cell is_other) [
    | inl too ↦ distinct number other cell was too
    | inr last ↦ absurd (unknown number (was ∙ ap (λ (c : CellSeen). Some c) (sym last.1)))
  ]
  | inr last ↦ elim (there_before cells new other cell is_other) [
    | inl was ↦ absurd (unknown other (was ∙ ap (λ (c : CellSeen). Some c) (sym last.1)))
    | inr too ↦ last.0 ∙ sym too.0
  ]
]

module _ (frame : Grid) (levels : List BareState) (places : List Place) (objects : ℕ) (place : Place) (cell : CellSeen) (book : IsBook frame levels places objects) (there_is : cell_in levels place ≡ cell) where
  -- the cells of a book that got one more of a level that it keeps
  pub cells_more : map (cell_in levels) (places ++ place ∷ []) ≡ map (cell_in levels) places ++ cell ∷ []
  cells_more = map-append (cell_in levels) places (place ∷ []) ∙ ap (λ (c : CellSeen). map (cell_in levels) places ++ c ∷ []) there_is

  -- and what holds of it
  pub placed_more : place.level < length levels → place.index < length frame.cells → place.word ≡ cell_word objects cell → IsUnknown (map (cell_in levels) places) cell → IsBook frame levels (places ++ place ∷ []) objects
  placed_more low within word unknown =
      let placed : IsPlaceIn frame levels objects place = record {
        level = low;
        index = within;
        word = word ∙ ap (λ (c : CellSeen). cell_word objects c) (sym there_is);
      } in
      record {
        framed = book.framed;
        placed = All-append (IsPlaceIn frame levels objects) places (place ∷ []) book.placed (All-cons (IsPlaceIn frame levels objects) place [] placed (All-nil (IsPlaceIn frame levels objects)));
        distinct = subst AreDistinctCells (sym cells_more) (distinct_more (map (cell_in levels) places) cell book.distinct unknown);
      }

-- what is kept is alike to a level of the frame's size
pub alike : (frame : Grid) (levels : List BareState) (grid : Grid) → SameSize frame grid → length grid.cells ≡ length frame.cells → All (IsFramed frame) levels → All (IsFramed grid) levels
alike frame levels grid size long all = All-weaker (IsFramed frame) (IsFramed grid) (λ level is. record { size = size_across frame grid level.grid size is.size; long = is.long ∙ sym long }) levels all

-- a book that may have got a level has the cells that it had
pub still_book : (frame grid : Grid) (levels news : List BareState) (places : List Place) (objects : ℕ) → IsBook frame levels places objects → SameSize frame grid → length grid.cells ≡ length frame.cells → HasMore levels news grid →
    IsBook frame news places objects × (map (cell_in news) places ≡ map (cell_in levels) places)
still_book frame grid levels news places objects book size long (inl same) = (subst (λ (l : List BareState). IsBook frame l places objects) (sym same) book, ap (λ (l : List BareState). map (cell_in l) places) same)
still_book frame grid levels news places objects book size long (inr (more, is, added)) =
    let framed : IsFramed frame more = record { size = subst (λ (g : Grid). SameSize frame g) (sym is) size; long = ap (λ (g : Grid). length g.cells) is ∙ long } in (
      subst (λ (l : List BareState). IsBook frame l places objects) (sym added) (with_level frame levels places objects more book framed),
      ap (λ (l : List BareState). map (cell_in l) places) added ∙ cells_still frame levels more objects places book.placed,
    )
