-- Worked cases: labels, the texts of cells, and how much of them is written.
use Rattle.std.proofs.Common.{◌≡◌, ℕ, List, [], ◌∷◌, ◌++◌, codes, ◌<◌, get_or, refl, ap, arith}
use Rattle.std.proofs.lemmas.List.Elements.{All-nil, All-cons}
use Rattle.std.specs.Fmt.{digits}
use Rattle.json.specs.Print.{escape, escape_byte}
use Rattle.pz_json_text.specs.CellTexts.{text_of_names, text_of_cells, piece, with_cell}
use Rattle.pz_json_text.specs.Labels.{text_at}
use Rattle.pz_json_text.specs.Written.{AreFirsts, IsSameBut, with_shifted_end, written_to}

abbrev background : List ℕ
background = codes "background"

abbrev player : List ℕ
player = codes "player"

abbrev wall : List ℕ
wall = codes "wall"

-- the same cells of two columns and three rows, row by row and column by column
in_rows : text_of_cells 2 (background ∷ text_of_names (background ∷ player ∷ []) ∷ background ∷ background ∷ background ∷ background ∷ []) ≡ codes "background:0,background player:1,\n0,0,\n0,0,\n"
unfolding piece with_cell digits
in_rows = refl

in_columns : text_of_cells 2 (background ∷ background ∷ background ∷ text_of_names (background ∷ player ∷ []) ∷ background ∷ background ∷ []) ≡ codes "background:0,0,\n0,background player:1,\n0,0,\n"
unfolding piece with_cell digits
in_columns = refl

-- as it stands in a JSON string: the end of a line takes two bytes, and a mark in a name has one before it
as_json : escape (text_of_cells 2 (codes "wa\"ll" ∷ codes "wa\"ll" ∷ [])) ≡ codes "wa" ++ 92 ∷ 34 ∷ codes "ll:0,0," ++ 92 ∷ 110 ∷ []
unfolding piece with_cell digits escape_byte
as_json = refl

-- how much is written with the first three of four cells, in two columns: the end of a line counts as two bytes
three_written : written_to 2 (background ∷ text_of_names (background ∷ player ∷ []) ∷ background ∷ background ∷ []) 3 ≡ record { end = 37; cells = 3; known = 2; column = 1 }
unfolding piece with_cell digits escape_byte
three_written = refl

-- what ended at 40 ends at 38
two_bytes_less : with_shifted_end 40 38 (record { end = 57; cells = 32; known = 4; column = 2 }) ≡ record { end = 55; cells = 32; known = 4; column = 2 }
two_bytes_less = refl

-- cells of which the second alone has changed
second_changed : IsSameBut 1 2 (background ∷ player ∷ wall ∷ []) (background ∷ wall ∷ wall ∷ [])
second_changed = record { front = refl; back = refl; count = refl; within = omega arith }

not_the_third_alone : IsSameBut 2 3 (background ∷ player ∷ wall ∷ []) (background ∷ wall ∷ wall ∷ []) → ⊥
not_the_third_alone same =
    let byte : 112 ≡ 119 = ap (λ (l : List (List ℕ)). get_or (get_or l 1 []) 0 0) same.front in
    omega (arith, byte)

-- the labels of the texts that have a number after three cells
two_firsts : AreFirsts (wall ∷ player ∷ wall ∷ background ∷ []) (background ∷ wall ∷ player ∷ []) 3 (1 ∷ 2 ∷ [])
unfolding with_cell
two_firsts = record { known = refl; within = All-cons (λ l. l < 3) 1 (2 ∷ []) (omega arith) (All-cons (λ l. l < 3) 2 [] (omega arith) (All-nil (λ l. l < 3))) }

-- the label of a text is its place among those that are known
second_text : text_at (wall ∷ player ∷ []) 1 ≡ player
second_text = refl
