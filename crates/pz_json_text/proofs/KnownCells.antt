-- The sets of names that are known, and the text that they give.
use Rattle.std.proofs.Common.{◌≡◌, ◌≤◌, ℕ, suc, Bool, true, cond, not, Some, List, [], ◌∷◌, false, None, refl, ap, ◌+◌, ◌<◌, ◌++◌, length, take, get_or, flat_map, sym, ◌∙◌, nat_lt, arith}
use Rattle.std.proofs.lemmas.List.{append_assoc, append-nil, map-id}
use Rattle.std.proofs.lemmas.List.Sums.{fold_more}
use Rattle.std.proofs.lemmas.Bool.{ltb-false, lt-ltb, le-ltb, true≢false}
use Rattle.std.proofs.lemmas.Grind.{flat_map-append}
use Rattle.std.proofs.lemmas.List.FromFn.{map-range_with_len_more}
use Rattle.std.specs.List.{position_or_len, range_with_len}
use Rattle.std.specs.Str.{bytes_eq}
use Rattle.pz_base.specs.NameSet.{number_in, is_name_of}
use Rattle.pz_json_text.specs.CellTexts.{piece, with_cell, known_of, cell_text, line_end, text_to, text_of_cells}

pub none_chosen : (b : Bool) (n : ℕ) → cond b (Some n) None ≡ None → b ≡ false
none_chosen true n e = cc
none_chosen false n e = refl

-- the first element settles it, or the rest does
pub nothing_first : (b : Bool) (n m : ℕ) → nat_lt (cond (not b) (1 + n) 0) (suc m) ≡ false → (b ≡ false) × (nat_lt n m ≡ false)
nothing_first true n m e = absurd (true≢false (sym (lt-ltb 0 (suc m) (omega arith)) ∙ e))
nothing_first false n m e = let past : suc m ≤ 1 + n = ltb-false (1 + n) (suc m) e in (refl, le-ltb n m (omega arith))

nowhere : (known : List (List ℕ)) (cell : List ℕ) → nat_lt (position_or_len (bytes_eq cell) known) (length known) ≡ false → is_name_of known cell ≡ false
nowhere [] cell e = refl
nowhere (x ∷ known) cell e =
    let h = nothing_first (bytes_eq cell x) (position_or_len (bytes_eq cell) known) (length known) e in
    rw (h.0, nowhere known cell h.1) refl

-- what has no number is new
pub is_new : (known : List (List ℕ)) (cell : List ℕ) → number_in known cell ≡ None → is_name_of known cell ≡ false
is_new known cell e = nowhere known cell (none_chosen (nat_lt (position_or_len (bytes_eq cell) known) (length known)) (position_or_len (bytes_eq cell) known) e)

pub known_more : (cells : List (List ℕ)) (k : ℕ) → k < length cells → known_of (take (k + 1) cells) ≡ with_cell (known_of (take k cells)) (get_or cells k [])
known_more cells k h = fold_more with_cell [] cells k [] h

pub numbers_more : (n : ℕ) → range_with_len 0 (n + 1) ≡ range_with_len 0 n ++ n ∷ []
numbers_more n = sym (map-id (range_with_len 0 (n + 1))) ∙ map-range_with_len_more (λ k. k) 0 n n (omega arith) ∙ ap (λ l. l ++ n ∷ []) (map-id (range_with_len 0 n))

pub text_to_more : (width : ℕ) (cells : List (List ℕ)) (n : ℕ) → text_to width cells (n + 1) ≡ text_to width cells n ++ cell_text width cells n
text_to_more width cells n =
    ap (flat_map (cell_text width cells)) (numbers_more n)
    ∙ flat_map-append (cell_text width cells) (range_with_len 0 n) (n ∷ [])
    ∙ ap (λ l. text_to width cells n ++ l) (append-nil (cell_text width cells n))

-- one more cell written, and its line ended
pub cell_written : (width : ℕ) (cells : List (List ℕ)) (k : ℕ) (old text end : List ℕ) (known : List (List ℕ)) (cell : List ℕ)
    → old ≡ text_to width cells k → known ≡ known_of (take k cells) → get_or cells k [] ≡ cell
    → text ≡ old ++ piece known cell → end ≡ text ++ line_end width (k + 1)
    → end ≡ text_to width cells (k + 1)
cell_written width cells k old text end known cell e_old e_known e_cell e_text e_end =
    rw (text_to_more width cells k, e_cell, ← e_known, ← e_old, e_end, e_text) (append_assoc old (piece known cell) (line_end width (k + 1)))

pub cell_known : (cells : List (List ℕ)) (k : ℕ) (old new : List (List ℕ)) (cell : List ℕ) → k < length cells → old ≡ known_of (take k cells) → get_or cells k [] ≡ cell
    → new ≡ with_cell old cell → new ≡ known_of (take (k + 1) cells)
cell_known cells k old new cell h e_old e_cell e_new = rw (known_more cells k h, e_cell, ← e_old) e_new

pub all_written : (width : ℕ) (cells : List (List ℕ)) (k : ℕ) (text : List ℕ) → k ≡ length cells → text ≡ text_to width cells k → text ≡ text_of_cells width cells
all_written width cells k text e h = h ∙ ap (text_to width cells) e
