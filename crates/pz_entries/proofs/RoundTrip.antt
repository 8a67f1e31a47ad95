-- The text of cells reads as the cells, where no name holds a comma or a line end.
use Rattle.std.proofs.Common.{◌≡◌, ℕ, zero, suc, ◌+◌, ◌<◌, ◌≤◌, ◌^◌, ◌%◌, eqb, leb, not, List, [], ◌∷◌, ◌++◌, length, take, get_or, All, fold, filter, map, flat_map, Bool, true, false, cond, Option, Some, None, option_map, decimal, refl, ap, sym, ◌∙◌, add-one, arith, ◌⊎◌, inl, inr}
use Rattle.std.proofs.lemmas.Fmt.{decimal_is_IsNumeral, digits_decimal, digits_value-decimal}
use Rattle.std.proofs.lemmas.Str.Parse.{IsNumeralModel, numerals_by_value, tells_all_ascii_digits}
use Rattle.std.proofs.lemmas.Bool.{lt-ltb, eq-eqb, ne_eqb, and_parts, leb-true, not-true}
use Rattle.std.specs.Str.{all_ascii_digits, bytes_eq}
use Rattle.std.specs.Str.Parse.{digits_value}
use Rattle.std.specs.Char.{is_ascii_digit}
use Rattle.std.specs.List.{list_all, range_with_len}
use Rattle.std.proofs.lemmas.List.Quantifiers.{position-Some}
use Rattle.std.proofs.lemmas.Option.{slice_get-get_or}
use Rattle.std.proofs.lemmas.Slice.Eq.{bytes_eq-Decides}
use Rattle.std.proofs.lemmas.List.Folds.{flat_map-map}
use Rattle.std.proofs.lemmas.List.Elements.{filter-append}
use Rattle.std.proofs.lemmas.List.{append_assoc, append-nil, map-append, take_more, take_all, length-append}
use Rattle.std.proofs.lemmas.Grind.{flat_map-append}
use Rattle.pz_json_text.proofs.KnownCells.{known_more, numbers_more}
use Rattle.pz_base.specs.NameSet.{number_in}
use Rattle.pz_json_text.specs.CellTexts.{with_cell, or_added, known_of, piece_by_number, piece, line_end, cell_text, text_of_cells}
use Rattle.pz_entries.specs.Reading.{number_of, cut_last, read_piece, read_from, is_comma, all_ended, reading, no_line_end, plain}
use Rattle.pz_entries.specs.Names.{name_set}
use Rattle.pz_entries.proofs.Pieces.{pieces_more}
use Rattle.std.specs.List.{slice_split}
use Rattle.std.proofs.lemmas.List.Splits.{slice_split_at}
use Rattle.std.proofs.lemmas.List.Elements.{All-nil, All-cons}
use Rattle.std.proofs.lemmas.List.{length-map, get_or-map}

-- 0, 1, .., n - 1, from the last
abbrev pub numbers_to : ℕ → List ℕ
numbers_to zero = []
numbers_to (suc n) = numbers_to n ++ n ∷ []

range_is : (n : ℕ) → range_with_len 0 n ≡ numbers_to n
range_is zero = refl
range_is (suc n) = ap (range_with_len 0) (sym (add-one n)) ∙ numbers_more n ∙ ap (λ l. l ++ n ∷ []) (range_is n)

-- the piece of a cell, without its comma
abbrev pub body_of : List (List ℕ) → List ℕ → Option ℕ → List ℕ
body_of known cell None = cell ++ 58 ∷ [] ++ decimal (length known)
body_of known cell (Some k) = decimal k

abbrev pub body : List (List ℕ) → List ℕ → List ℕ
body known cell = body_of known cell (number_in known cell)

abbrev pub bodies_from : List (List ℕ) → List (List ℕ) → List (List ℕ)
bodies_from known [] = []
bodies_from known (c ∷ cs) = body known c ∷ bodies_from (with_cell known c) cs

own : IsNumeralModel (λ ds. all_ascii_digits ds ≡ true) (digits_value 10)
own = numerals_by_value _ tells_all_ascii_digits

pub decimal_digits : (k : ℕ) → k < 2 ^ 64 → all_ascii_digits (decimal k) ≡ true
decimal_digits k h = digits_decimal own k h

pub number_of-decimal : (k : ℕ) → k < 2 ^ 64 → number_of (decimal k) ≡ Some k
unfolding number_of
number_of-decimal k h =
    let some : 0 < length (decimal k) = (decimal_is_IsNumeral k h).0.0 in
    rw (lt-ltb 0 (length (decimal k)) some, decimal_digits k h, digits_value-decimal own k h) refl

-- a byte that is no digit does not stand among digits
pub digit_is_not : (d c : ℕ) → is_ascii_digit d ≡ true → (c < 48) ⊎ (57 < c) → eqb d c ≡ false
digit_is_not d c h out =
    let parts = and_parts (leb 48 d) (leb d 57) h in
    let low : 48 ≤ d = leb-true 48 d parts.0 in
    let high : d ≤ 57 = leb-true d 57 parts.1 in
    ne_eqb d c (λ e. elim out [ inl below ↦ let bad : 48 ≤ c = rw (← e) low in absurd (omega arith) | inr above ↦ let bad : c ≤ 57 = rw (← e) high in absurd (omega arith) ])

pub no_colon : (ds : List ℕ) → all_ascii_digits ds ≡ true → cut_last ds ≡ None
no_colon [] h = refl
no_colon (d ∷ ds) h =
    let parts = and_parts (is_ascii_digit d) (all_ascii_digits ds) h in
    rw (no_colon ds parts.1, digit_is_not d 58 parts.0 (inr (omega arith))) refl

pub cut_at_colon : (names ds : List ℕ) → all_ascii_digits ds ≡ true → cut_last (names ++ 58 ∷ ds) ≡ Some (names, ds)
cut_at_colon [] ds h = rw (no_colon ds h) refl
cut_at_colon (b ∷ names) ds h = rw (cut_at_colon names ds h) refl

reads_as : (known : List (List ℕ)) (cell : List ℕ) (o : Option ℕ) → number_in known cell ≡ o → length known < 2 ^ 64
    → read_piece (map name_set known) (body_of known cell o) ≡ Some (name_set cell, map name_set (or_added known cell o))
unfolding read_piece
reads_as known cell None e h =
    let n = length known in
    let m : length (map name_set known) ≡ n = length-map known name_set in
    rw (append_assoc cell (58 ∷ []) (decimal n), cut_at_colon cell (decimal n) (decimal_digits n h), number_of-decimal n h, m, eq-eqb n n refl, map-append name_set known (cell ∷ [])) refl
reads_as known cell (Some k) e h =
    let at = position-Some (bytes_eq cell) known k [] e in
    let small : k < 2 ^ 64 = omega (arith, at.0) in
    let same : get_or known k [] ≡ cell = sym ((bytes_eq-Decides cell (get_or known k [])).0 at.1) in
    let within : k < length (map name_set known) = rw (length-map known name_set) at.0 in
    let there : get_or (map name_set known) k [] ≡ name_set cell = get_or-map name_set known k [] [] at.0 ∙ ap name_set same in
    rw (no_colon (decimal k) (decimal_digits k small), number_of-decimal k small, slice_get-get_or (map name_set known) k [] within, there) refl

-- a piece reads as the names of its cell
pub piece_reads : (known : List (List ℕ)) (cell : List ℕ) → length known < 2 ^ 64 → read_piece (map name_set known) (body known cell) ≡ Some (name_set cell, map name_set (with_cell known cell))
unfolding with_cell
piece_reads known cell h = reads_as known cell (number_in known cell) refl h

or_added_length : (known : List (List ℕ)) (cell : List ℕ) (o : Option ℕ) → length (or_added known cell o) ≤ length known + 1
or_added_length known cell None = omega (arith, length-append known (cell ∷ []))
or_added_length known cell (Some k) = omega arith

pub with_cell_length : (known : List (List ℕ)) (cell : List ℕ) → length (with_cell known cell) ≤ length known + 1
unfolding with_cell
with_cell_length known cell = or_added_length known cell (number_in known cell)

pub bodies_read : (cells known : List (List ℕ)) → length known + length cells < 2 ^ 64 → read_from (map name_set known) (bodies_from known cells) ≡ Some (map name_set cells)
bodies_read [] known h = refl
bodies_read (c ∷ cs) known h =
    let rest = bodies_read cs (with_cell known c) (omega (arith, with_cell_length known c)) in
    rw (piece_reads known c (omega arith), rest) refl

no_comma : (n : List ℕ) → list_all plain n ≡ true → All (λ b. is_comma b ≡ false) n
no_comma [] h = All-nil (λ b. is_comma b ≡ false)
no_comma (c ∷ n) h =
    let parts = and_parts (plain c) (list_all plain n) h in
    All-cons (λ b. is_comma b ≡ false) c n (not-true (is_comma c) (and_parts (not (is_comma c)) (no_line_end c) parts.0).0) (no_comma n parts.1)

-- pieces are found again
pub pieces_found : (bodies : List (List ℕ)) → list_all (list_all plain) bodies ≡ true → all_ended (slice_split is_comma (flat_map (λ p. p ++ 44 ∷ []) bodies)) ≡ Some bodies
pieces_found [] h = refl
pieces_found (p ∷ ps) h =
    let parts = and_parts (list_all plain p) (list_all (list_all plain) ps) h in
    let rest = flat_map (λ (q : List ℕ). q ++ 44 ∷ []) ps in
    let first : slice_split is_comma (p ++ 44 ∷ rest) ≡ p ∷ slice_split is_comma rest = slice_split_at is_comma p 44 rest (no_comma p parts.0) refl in
    rw (append_assoc p (44 ∷ []) rest) (pieces_more (p ++ 44 ∷ rest) p rest first ∙ ap (option_map (λ qs. p ∷ qs)) (pieces_found ps parts.1))

-- a text without line ends stays
pub plain_kept : (xs : List ℕ) → list_all plain xs ≡ true → filter no_line_end xs ≡ xs
plain_kept [] h = refl
plain_kept (x ∷ xs) h =
    let parts = and_parts (plain x) (list_all plain xs) h in
    rw ((and_parts (not (eqb x 44)) (no_line_end x) parts.0).1, plain_kept xs parts.1) refl

line_end_dropped : (b : Bool) → filter no_line_end (cond b (10 ∷ []) []) ≡ []
line_end_dropped true = refl
line_end_dropped false = refl

bodies_snoc : (known cs : List (List ℕ)) (c : List ℕ) → bodies_from known (cs ++ c ∷ []) ≡ bodies_from known cs ++ body (fold with_cell known cs) c ∷ []
bodies_snoc known [] c = refl
bodies_snoc known (x ∷ cs) c = ap (λ (t : List (List ℕ)). body known x ∷ t) (bodies_snoc (with_cell known x) cs c)

abbrev pub body_at : List (List ℕ) → ℕ → List ℕ
body_at cells i = body (known_of (take i cells)) (get_or cells i [])

pub bodies_at : (cells : List (List ℕ)) (n : ℕ) → n ≤ length cells → map (body_at cells) (numbers_to n) ≡ bodies_from [] (take n cells)
bodies_at cells zero h = refl
bodies_at cells (suc n) h =
    let before = bodies_at cells n (omega arith) in
    let more : take (suc n) cells ≡ take n cells ++ get_or cells n [] ∷ [] = rw (← add-one) (take_more cells n [] (omega arith)) in
    rw (map-append (body_at cells) (numbers_to n) (n ∷ []), before, more, bodies_snoc [] (take n cells) (get_or cells n [])) refl

-- with its comma
piece_is : (known : List (List ℕ)) (cell : List ℕ) (o : Option ℕ) → piece_by_number known cell o ≡ body_of known cell o ++ 44 ∷ []
piece_is known cell None = refl
piece_is known cell (Some k) = refl

pub all_append : (p : ℕ → Bool) (xs ys : List ℕ) → list_all p xs ≡ true → list_all p ys ≡ true → list_all p (xs ++ ys) ≡ true
all_append p [] ys h k = k
all_append p (x ∷ xs) ys h k =
    let parts = and_parts (p x) (list_all p xs) h in
    rw (parts.0, all_append p xs ys parts.1 k) refl

all_at : (p : List ℕ → Bool) (xs : List (List ℕ)) (i : ℕ) (d : List ℕ) → list_all p xs ≡ true → i < length xs → p (get_or xs i d) ≡ true
all_at p [] i d h l = absurd (omega arith)
all_at p (x ∷ xs) zero d h l = (and_parts (p x) (list_all p xs) h).0
all_at p (x ∷ xs) (suc i) d h l = all_at p xs i d (and_parts (p x) (list_all p xs) h).1 (omega arith)

digits_plain : (ds : List ℕ) → all_ascii_digits ds ≡ true → list_all plain ds ≡ true
digits_plain [] h = refl
digits_plain (d ∷ ds) h =
    let parts = and_parts (is_ascii_digit d) (all_ascii_digits ds) h in
    rw (digit_is_not d 44 parts.0 (inl (omega arith)), digit_is_not d 10 parts.0 (inl (omega arith)), digit_is_not d 13 parts.0 (inl (omega arith)), digits_plain ds parts.1) refl

body_plain : (known : List (List ℕ)) (cell : List ℕ) (o : Option ℕ) → number_in known cell ≡ o → length known < 2 ^ 64 → list_all plain cell ≡ true → list_all plain (body_of known cell o) ≡ true
body_plain known cell None e h c = all_append plain (cell ++ 58 ∷ []) (decimal (length known)) (all_append plain cell (58 ∷ []) c refl) (digits_plain (decimal (length known)) (decimal_digits (length known) h))
body_plain known cell (Some k) e h c =
    let at = position-Some (bytes_eq cell) known k [] e in
    digits_plain (decimal k) (decimal_digits k (omega (arith, at.0)))

known_bound : (cells : List (List ℕ)) (n : ℕ) → n ≤ length cells → length (known_of (take n cells)) ≤ n
known_bound cells zero h = omega arith
known_bound cells (suc n) h =
    let step : known_of (take (suc n) cells) ≡ with_cell (known_of (take n cells)) (get_or cells n []) = rw (← add-one) (known_more cells n (omega arith)) in
    rw step (omega (arith, known_bound cells n (omega arith), with_cell_length (known_of (take n cells)) (get_or cells n [])))

body_at_plain : (cells : List (List ℕ)) (i : ℕ) → length cells < 2 ^ 64 → list_all (list_all plain) cells ≡ true → i < length cells → list_all plain (body_at cells i) ≡ true
body_at_plain cells i small h l =
    let known = known_of (take i cells) in
    let cell = get_or cells i [] in
    body_plain known cell (number_in known cell) refl (omega (arith, known_bound cells i (omega arith))) (all_at (list_all plain) cells i [] h l)

cell_kept : (width : ℕ) (cells : List (List ℕ)) (i : ℕ) → list_all plain (body_at cells i) ≡ true → filter no_line_end (cell_text width cells i) ≡ body_at cells i ++ 44 ∷ []
unfolding piece
cell_kept width cells i h =
    let known = known_of (take i cells) in
    let cell = get_or cells i [] in
    let is : piece known cell ≡ body known cell ++ 44 ∷ [] = piece_is known cell (number_in known cell) in
    rw (
      filter-append no_line_end (piece known cell) (line_end width (i + 1)),
      line_end_dropped (eqb ((i + 1) % width) 0),
      append-nil (filter no_line_end (piece known cell)),
      is,
      filter-append no_line_end (body known cell) (44 ∷ []),
      plain_kept (body known cell) h,
    ) refl

text_kept : (width : ℕ) (cells : List (List ℕ)) (n : ℕ) → length cells < 2 ^ 64 → list_all (list_all plain) cells ≡ true → n ≤ length cells
    → filter no_line_end (flat_map (cell_text width cells) (numbers_to n)) ≡ flat_map (λ i. body_at cells i ++ 44 ∷ []) (numbers_to n)
text_kept width cells zero small h l = refl
text_kept width cells (suc n) small h l =
    let plain_here = body_at_plain cells n small h (omega arith) in
    rw (
      flat_map-append (cell_text width cells) (numbers_to n) (n ∷ []),
      flat_map-append (λ i. body_at cells i ++ 44 ∷ []) (numbers_to n) (n ∷ []),
      append-nil (cell_text width cells n),
      append-nil (body_at cells n ++ 44 ∷ []),
      filter-append no_line_end (flat_map (cell_text width cells) (numbers_to n)) (cell_text width cells n),
      text_kept width cells n small h (omega arith),
      cell_kept width cells n plain_here,
    ) refl

all_snoc : (p : List ℕ → Bool) (xs : List (List ℕ)) (y : List ℕ) → list_all p xs ≡ true → p y ≡ true → list_all p (xs ++ y ∷ []) ≡ true
all_snoc p [] y h e = rw e refl
all_snoc p (x ∷ xs) y h e =
    let parts = and_parts (p x) (list_all p xs) h in
    rw (parts.0, all_snoc p xs y parts.1 e) refl

bodies_plain : (cells : List (List ℕ)) (n : ℕ) → length cells < 2 ^ 64 → list_all (list_all plain) cells ≡ true → n ≤ length cells → list_all (list_all plain) (map (body_at cells) (numbers_to n)) ≡ true
bodies_plain cells zero small h l = refl
bodies_plain cells (suc n) small h l =
    rw (map-append (body_at cells) (numbers_to n) (n ∷ [])) (all_snoc (list_all plain) (map (body_at cells) (numbers_to n)) (body_at cells n) (bodies_plain cells n small h (omega arith)) (body_at_plain cells n small h (omega arith)))

-- the text of cells reads as the names of the cells
pub round_trip : (width : ℕ) (cells : List (List ℕ)) → length cells < 2 ^ 64 → list_all (list_all plain) cells ≡ true → reading (text_of_cells width cells) ≡ Some (map name_set cells)
unfolding reading
round_trip width cells small h =
    let n = length cells in
    let bodies = map (body_at cells) (numbers_to n) in
    let kept : filter no_line_end (text_of_cells width cells) ≡ flat_map (λ p. p ++ 44 ∷ []) bodies =
    ap (λ l. filter no_line_end (flat_map (cell_text width cells) l)) (range_is n) ∙ text_kept width cells n small h (omega arith) ∙ sym (flat_map-map (λ (p : List ℕ). p ++ 44 ∷ []) (body_at cells) (numbers_to n)) in
    let found : all_ended (slice_split is_comma (flat_map (λ p. p ++ 44 ∷ []) bodies)) ≡ Some bodies = pieces_found bodies (bodies_plain cells n small h (omega arith)) in
    let same : bodies ≡ bodies_from [] cells = rw (take_all n cells (omega arith)) at (bodies_at cells n (omega arith)) in
    rw (kept, found, same) (bodies_read cells [] (omega arith))
