-- The objects that a row names, as one set.
use Rattle.pz_grid.proofs.Common.{AreNamed, Bool, IsTrue, IsWithin, Item, List, [], arith, eq-eqb, eqb-true, false, list_all, list_any, marks_cell, member, names_object, or_left, or_right, refl, sym, true, ℕ, ◌↔◌, ◌∙◌, ◌∷◌, ◌≡◌}

-- every object that is named is in a set, or one isn't
cell_marked : (marks : List ℕ) (cell : List Item) → ((object : ℕ) → names_object object cell ≡ true → member marks object ≡ true) → marks_cell marks cell ≡ true
cell_marked marks [] h = refl
cell_marked marks (item ∷ items) h = grind (arith, h item.object, eq-eqb item.object item.object, cell_marked marks items (λ object e. h object (or_right _ _ e)))

cell_in : (marks : List ℕ) (cell : List Item) → marks_cell marks cell ≡ true → (object : ℕ) → names_object object cell ≡ true → member marks object ≡ true
cell_in marks [] all object e = cc
cell_in marks (item ∷ items) all object e = grind (arith, all, e, eqb-true item.object object, λ (rest : marks_cell marks items ≡ true). cell_in marks items rest object)

row_marked : (marks : List ℕ) (cells : List (List Item)) → ((object : ℕ) → list_any (names_object object) cells ≡ true → member marks object ≡ true) → list_all (marks_cell marks) cells ≡ true
row_marked marks [] h = refl
row_marked marks (cell ∷ cells) h = grind (arith, cell_marked marks cell (λ object e. h object (or_left _ _ e)), row_marked marks cells (λ object e. h object (or_right _ _ e)))

row_in : (marks : List ℕ) (cells : List (List Item)) → list_all (marks_cell marks) cells ≡ true → (object : ℕ) → list_any (names_object object) cells ≡ true → member marks object ≡ true
row_in marks [] all object e = cc
row_in marks (cell ∷ cells) all object e = grind (arith, all, e, λ (here : marks_cell marks cell ≡ true). cell_in marks cell here object, λ (rest : list_all (marks_cell marks) cells ≡ true). row_in marks cells rest object)

-- a set has all that a row names exactly if it has the row's own set
pub named_decide : (result : Bool) (marks named : List ℕ) (cells : List (List Item)) → (IsTrue result ↔ IsWithin named marks) → AreNamed cells named → result ≡ list_all (marks_cell marks) cells
named_decide true marks named cells decides are = sym (row_marked marks cells (λ object e. decides.0 refl object (are object ∙ e)))
named_decide false marks named cells decides are = grind (arith, λ (e : list_all (marks_cell marks) cells ≡ true). decides.1 (λ object in_named. row_in marks cells e object (sym (are object) ∙ in_named)))
