-- If all cells of a rule's row hold somewhere, each heading that the row asks for is noted, for the whole level and for the
-- lines.
use Rattle.pz_sheet.proofs.Common.{Layering, ◌≡◌, ◌+◌, ◌*◌, ◌%◌, ◌<◌, ℕ, List, [], ◌∷◌, Bool, true, false, not, inl, inr, suc, length, get_or, arith, ap, sym, ◌∙◌, IsTrue, ◌↔◌, All, list_any, cases_lt, get_or-map, div-mul-add, mod-mul-add, member, IsWithin, AreApart, Dir, Item, flag, heads, asks_toward, AreOf, AreRequired, flag_of, Cell, no_cell, met_all, asked_by, toward, is_toward, Grid, HoldsSomewhere, HoldsInLine, Axis, Horizontal, Vertical, HeadingSets, headings_of, line_count, HeadsWithin, grid_of, IsStored, IsNoted, pieces_of_cell}
use Rattle.pz_sheet.proofs.SheetLemmas.{cell_in}

-- a number of both sets: they aren't apart
pub not_apart : (apart : Bool) (asked words : List ℕ) (number : ℕ) → (IsTrue apart ↔ AreApart asked words) → member asked number ≡ true → member words number ≡ true → not apart ≡ true
not_apart apart asked words number is wanted there = grind (arith, is, λ (t : apart ≡ true). is.0 t number wanted)

module _ (N width height : ℕ) (layering : Layering) (cells : List (Cell N)) (notes : HeadingSets) (s : IsStored N width height layering cells notes) where
  abbrev grid : Grid
  grid = grid_of width height layering cells

  -- a rule's cell holds somewhere, where a cell that is noted heads within a set
  abbrev IsWhere : List ℕ → List Item → Type 0
  IsWhere headings items = (h : HoldsSomewhere grid items) × (IsNoted N width notes (h.y * width + h.x) (get_or cells (h.y * width + h.x) (no_cell N)) → HeadsWithin N headings (get_or cells (h.y * width + h.x) (no_cell N)))

  module _ (headings : List ℕ) (Holds : List Item → Type 0) (find : (items : List Item) → Holds items → IsWhere headings items) where
    -- what a cell asks to head is noted where it holds
    heads_here : (items : List Item) (layer : ℕ) (dir : Dir) → AreOf layering.layers items → Holds items → asks_toward layer dir items ≡ true → heads headings layer dir ≡ true
    heads_here items layer dir are holds asks =
        let h = (find items holds).0 in
        let at = h.y * width + h.x in
        let cell = get_or cells at (no_cell N) in
        let within = cell_in width height (length cells) h.x h.y s.covers h.x_in h.y_in in
        let met = met_all layering.depth layering.layers cell.objects cell.movement items s.law.layered (s.sound at (no_cell N) within) are (rw (← get_or-map (pieces_of_cell layering) cells at (no_cell N) [] within) h.holds) in
        (find items holds).1 (s.noted.each at (no_cell N) within) (flag layer dir) (asked_by (λ k. heads cell.movement k dir ≡ true) (λ it. is_toward (toward true it.word) dir) (λ it. it.layer) items layer (λ k d within. (met k d within).2 dir) asks)

    -- the same for the cells of a row
    heads_there : (rows : List (List Item)) (layer : ℕ) (dir : Dir) → All (AreOf layering.layers) rows → All Holds rows → list_any (asks_toward layer dir) rows ≡ true → heads headings layer dir ≡ true
    heads_there [] layer dir are hold e = cc
    heads_there (items ∷ rows) layer dir are hold e =
        grind (arith, heads_here items layer dir (are 0 items (omega arith)) (hold 0 items (omega arith)), heads_there rows layer dir (λ k d h. are (suc k) d (omega (arith, h))) (λ k d h. hold (suc k) d (omega (arith, h))))

    asked_is_noted : (rows : List (List Item)) (required : List ℕ) → AreRequired rows required → All (AreOf layering.layers) rows → All Holds rows → IsWithin required headings
    asked_is_noted rows required r are hold number e = elim (cases_lt (number % 128) 125) [
      | inl low ↦ (let f = flag_of number low in
          let asks : list_any (asks_toward f.0 f.1) rows ≡ true = sym (r.asked f.0 f.1) ∙ (ap (member required) f.2 ∙ e) in
          sym (ap (member headings) f.2) ∙ heads_there rows f.0 f.1 are hold asks)
      | inr high ↦ (let none : false ≡ true = sym (r.proper number high) ∙ e in cc)
    ]

  pub asked_somewhere : (rows : List (List Item)) (required : List ℕ) → AreRequired rows required → All (AreOf layering.layers) rows → All (HoldsSomewhere grid) rows → IsWithin required notes.whole
  asked_somewhere = asked_is_noted notes.whole (HoldsSomewhere grid) (λ items h. (h, λ noted. noted.whole))

  pub heads_somewhere : (rows : List (List Item)) (layer : ℕ) (dir : Dir) → All (AreOf layering.layers) rows → All (HoldsSomewhere grid) rows → list_any (asks_toward layer dir) rows ≡ true → heads notes.whole layer dir ≡ true
  heads_somewhere = heads_there notes.whole (HoldsSomewhere grid) (λ items h. (h, λ noted. noted.whole))

  pub asked_in_line : (axis : Axis) (number : ℕ) → number < line_count grid axis → (rows : List (List Item)) (required : List ℕ) → AreRequired rows required → All (AreOf layering.layers) rows → All (HoldsInLine grid (record { axis = axis; number = number })) rows → IsWithin required (get_or (headings_of notes axis) number [])
  asked_in_line Horizontal y y_in = asked_is_noted (get_or notes.rows y []) (HoldsInLine grid (record { axis = Horizontal; number = y })) (λ items h. (record { x = h.at; y = y; x_in = h.at_in; y_in = y_in; holds = h.holds }, λ noted. rw (div-mul-add y width h.at h.at_in) at noted.row))
  asked_in_line Vertical x x_in = asked_is_noted (get_or notes.columns x []) (HoldsInLine grid (record { axis = Vertical; number = x })) (λ items h. (record { x = x; y = h.at; x_in = x_in; y_in = h.at_in; holds = h.holds }, λ noted. rw (mod-mul-add h.at width x x_in) at noted.column))
