-- Pieces that are read one after the other.
use Rattle.std.proofs.Common.{◌≡◌, ℕ, ◌<◌, ◌≤◌, List, [], ◌∷◌, ◌++◌, length, take, map, get_or, Bool, true, false, cond, Option, Some, None, option_map, option_and_then, All, MatchOption, nat_lt, filter, refl, ap, ap₂, sym, ◌∙◌, arith}
use Rattle.std.specs.List.{slice_split, onto_first}
use Rattle.std.proofs.lemmas.List.{append_assoc, map-append, get_or-take, length-take}
use Rattle.std.proofs.lemmas.List.Elements.{All-head, All-tail, All-same, All-push, All-weaker}
use Rattle.std.proofs.lemmas.Bool.{ltb-true, ltb-false}
use Rattle.std.proofs.lemmas.Option.{slice_get-get_or, slice_get_past}
use Rattle.pz_entries.specs.Names.{name_set}
use Rattle.pz_json_text.proofs.KnownCells.{none_chosen}
use Rattle.pz_entries.proofs.Cuts.{chosen}
use Rattle.pz_entries.specs.Reading.{number_of, cut_last, below, is_number, known_set, read_from, read_piece, all_ended, is_comma, reading_with, reading, no_line_end}

starts : (p : ℕ → Bool) (xs : List ℕ) → (part : List ℕ) × ((parts : List (List ℕ)) × (slice_split p xs ≡ part ∷ parts))
starts p [] = ([], ([], refl))
starts p (x ∷ xs) =
    let rest = starts p xs in
    by (p x) rest.0 rest.1.0 rest.1.1
  where
    by : (b : Bool) (part : List ℕ) (parts : List (List ℕ)) → slice_split p xs ≡ part ∷ parts → (q : List ℕ) × ((qs : List (List ℕ)) × (cond b ([] ∷ slice_split p xs) (onto_first x (slice_split p xs)) ≡ q ∷ qs))
    by true part parts e = ([], (slice_split p xs, refl))
    by false part parts e = (x ∷ part, (parts, ap (onto_first x) e))

ended_more : (part : List ℕ) (rest : List (List ℕ)) (next : List ℕ) (parts : List (List ℕ)) → rest ≡ next ∷ parts → all_ended (part ∷ rest) ≡ option_map (λ ps. part ∷ ps) (all_ended rest)
ended_more part rest next parts e = rw e refl

pub pieces_more : (text part later : List ℕ) → slice_split is_comma text ≡ part ∷ slice_split is_comma later → all_ended (slice_split is_comma text) ≡ option_map (λ ps. part ∷ ps) (all_ended (slice_split is_comma later))
pieces_more text part later e =
    let s = starts is_comma later in
    ap all_ended e ∙ ended_more part (slice_split is_comma later) s.0 s.1.0 s.1.1

none_read : (sets : List (List (List ℕ))) (part : List ℕ) (o : Option (List (List ℕ))) → read_piece sets part ≡ None → option_and_then (read_from sets) (option_map (λ ps. part ∷ ps) o) ≡ None
none_read sets part None e = refl
none_read sets part (Some ps) e = rw e refl

pub reading_stops : (sets : List (List (List ℕ))) (text part later : List ℕ) → slice_split is_comma text ≡ part ∷ slice_split is_comma later → read_piece sets part ≡ None → reading_with sets text ≡ None
reading_stops sets text part later e none = ap (option_and_then (read_from sets)) (pieces_more text part later e) ∙ none_read sets part (all_ended (slice_split is_comma later)) none

map-map : (done : List (List (List ℕ))) (cell : List (List ℕ)) (o : Option (List (List (List ℕ)))) → option_map (λ cs. done ++ cs) (option_map (λ cs. cell ∷ cs) o) ≡ option_map (λ cs. (done ++ cell ∷ []) ++ cs) o
map-map done cell None = refl
map-map done cell (Some cs) = ap Some (sym (append_assoc done (cell ∷ []) cs))

one_read : (sets more : List (List (List ℕ))) (part : List ℕ) (cell : List (List ℕ)) (o : Option (List (List ℕ))) → read_piece sets part ≡ Some (cell, more)
    → option_and_then (read_from sets) (option_map (λ ps. part ∷ ps) o) ≡ option_map (λ cs. cell ∷ cs) (option_and_then (read_from more) o)
one_read sets more part cell None e = refl
one_read sets more part cell (Some ps) e = rw e refl

-- a piece that is read, behind cells that are done
pub reading_more : (sets more : List (List (List ℕ))) (text part later : List ℕ) (cell : List (List ℕ)) (done : List (List (List ℕ)))
    → slice_split is_comma text ≡ part ∷ slice_split is_comma later → read_piece sets part ≡ Some (cell, more)
    → option_map (λ cs. done ++ cs) (reading_with sets text) ≡ option_map (λ cs. (done ++ cell ∷ []) ++ cs) (reading_with more later)
reading_more sets more text part later cell done e read =
    let o = all_ended (slice_split is_comma later) in
    ap (λ r. option_map (λ cs. done ++ cs) (option_and_then (read_from sets) r)) (pieces_more text part later e)
    ∙ ap (option_map (λ cs. done ++ cs)) (one_read sets more part cell o read)
    ∙ map-map done cell (option_and_then (read_from more) o)

pub reading_whole : (o : Option (List (List (List ℕ)))) → option_map (λ cs. [] ++ cs) o ≡ o
reading_whole None = refl
reading_whole (Some cs) = refl

-- cells that are kept as places among the sets
at_front : (sets more : List (List (List ℕ))) (k : ℕ) → k < length sets → take (length sets) more ≡ sets → get_or more k [] ≡ get_or sets k []
at_front sets more k h e = sym (get_or-take (length sets) more k [] h) ∙ ap (λ l. get_or l k []) e

pub cells_kept : (sets more : List (List (List ℕ))) (cells : List ℕ) → All (λ k. k < length sets) cells → take (length sets) more ≡ sets → map (λ k. get_or more k []) cells ≡ map (λ k. get_or sets k []) cells
cells_kept sets more [] all e = refl
cells_kept sets more (k ∷ cells) all e =
    let P : ℕ → Type 0 = λ j. j < length sets in
    ap₂ (λ x xs. x ∷ xs) (at_front sets more k (All-head P k cells all) e) (cells_kept sets more cells (All-tail P k cells all) e)

-- pieces, case by case
pub read_new : (sets : List (List (List ℕ))) (piece names digits : List ℕ) → Some (names, digits) ≡ cut_last piece → is_number (length sets) (number_of digits) ≡ true
    → read_piece sets piece ≡ Some (name_set names, sets ++ name_set names ∷ [])
unfolding read_piece
read_new sets piece names digits e next = rw (← e, next) refl

pub read_not_new : (sets : List (List (List ℕ))) (piece names digits : List ℕ) → Some (names, digits) ≡ cut_last piece → is_number (length sets) (number_of digits) ≡ false → read_piece sets piece ≡ None
unfolding read_piece
read_not_new sets piece names digits e next = rw (← e, next) refl

below-known : (sets : List (List (List ℕ))) (o : Option ℕ) (k : ℕ) → below (length sets) o ≡ Some k → known_set sets o ≡ Some (get_or sets k [], sets)
below-known sets None k e = cc
below-known sets (Some n) k e =
    let parts = chosen (nat_lt n (length sets)) n k e in
    rw (slice_get-get_or sets n [] (ltb-true n (length sets) parts.0), parts.1) refl

not_below-known : (sets : List (List (List ℕ))) (o : Option ℕ) → below (length sets) o ≡ None → known_set sets o ≡ None
not_below-known sets None e = refl
not_below-known sets (Some n) e =
    let past : length sets ≤ n = ltb-false n (length sets) (none_chosen (nat_lt n (length sets)) n e) in
    rw (slice_get_past sets n past) refl

pub read_known : (sets : List (List (List ℕ))) (piece : List ℕ) (k : ℕ) → None ≡ cut_last piece → below (length sets) (number_of piece) ≡ Some k → read_piece sets piece ≡ Some (get_or sets k [], sets)
unfolding read_piece
read_known sets piece k e h = rw (← e) (below-known sets (number_of piece) k h)

pub read_unknown : (sets : List (List (List ℕ))) (piece : List ℕ) → None ≡ cut_last piece → below (length sets) (number_of piece) ≡ None → read_piece sets piece ≡ None
unfolding read_piece
read_unknown sets piece e h = rw (← e) (not_below-known sets (number_of piece) h)

-- what number_below answered
pub below_read : (sets : List (List (List ℕ))) (piece : List ℕ) (o : Option ℕ) → None ≡ cut_last piece → o ≡ below (length sets) (number_of piece)
    → MatchOption o (read_piece sets piece ≡ None) (λ place. read_piece sets piece ≡ Some (get_or sets place [], sets))
below_read sets piece None e h = read_unknown sets piece e (sym h)
below_read sets piece (Some k) e h = read_known sets piece k e (sym h)

get_or-last : (sets : List (List (List ℕ))) (set : List (List ℕ)) → get_or (sets ++ set ∷ []) (length sets) [] ≡ set
get_or-last [] set = refl
get_or-last (s ∷ sets) set = get_or-last sets set

pub new_at : (sets more : List (List (List ℕ))) (piece : List ℕ) (set : List (List ℕ)) (k : ℕ) (names : List ℕ) → read_piece sets piece ≡ Some (name_set names, sets ++ name_set names ∷ [])
    → set ≡ name_set names → more ≡ sets ++ set ∷ [] → k ≡ length sets → read_piece sets piece ≡ Some (get_or more k [], more)
new_at sets more piece set k names read is pushed at =
    let last : get_or more k [] ≡ name_set names = rw (pushed, at, get_or-last sets set) is in
    let all : more ≡ sets ++ name_set names ∷ [] = pushed ∙ ap (λ s. sets ++ s ∷ []) is in
    read ∙ sym (ap₂ (λ a b. Some (a, b)) last all)

-- what the whole text says, some cells of which are kept as places among the sets
abbrev pub so_far : List (List (List ℕ)) → List ℕ → List ℕ → Option (List (List (List ℕ)))
so_far sets cells text = option_map (λ cs. map (λ place. get_or sets place []) cells ++ cs) (reading_with sets text)

pub starts_so : (sets : List (List (List ℕ))) (cells text all : List ℕ) → sets ≡ [] → cells ≡ [] → text ≡ filter no_line_end all → so_far sets cells text ≡ reading all
unfolding reading
starts_so sets cells text all e f g = rw (e, f, g) (reading_whole (reading_with [] (filter no_line_end all)))

pub stops_so : (sets : List (List (List ℕ))) (cells text part later : List ℕ) → slice_split is_comma text ≡ part ∷ slice_split is_comma later → read_piece sets part ≡ None → so_far sets cells text ≡ None
stops_so sets cells text part later e none = rw (reading_stops sets text part later e none) refl

pub goes_on_so : (sets more : List (List (List ℕ))) (cells text part later : List ℕ) (k : ℕ) (after : List ℕ) → All (λ j. j < length sets) cells → take (length sets) more ≡ sets → after ≡ cells ++ k ∷ []
    → slice_split is_comma text ≡ part ∷ slice_split is_comma later → read_piece sets part ≡ Some (get_or more k [], more) → so_far more after later ≡ so_far sets cells text
goes_on_so sets more cells text part later k after within kept pushed e read =
    let at : List (List (List ℕ)) → ℕ → List (List ℕ) = λ s j. get_or s j [] in
    let same : map (at more) after ≡ map (at sets) cells ++ at more k ∷ [] = ap (map (at more)) pushed ∙ map-append (at more) cells (k ∷ []) ∙ ap (λ l. l ++ at more k ∷ []) (cells_kept sets more cells within kept) in
    ap (λ l. option_map (λ cs. l ++ cs) (reading_with more later)) same ∙ sym (reading_more sets more text part later (at more k) (map (at sets) cells) e read)

pub within_so : (sets more : List (List (List ℕ))) (cells : List ℕ) (k : ℕ) (after : List ℕ) → All (λ j. j < length sets) cells → take (length sets) more ≡ sets → after ≡ cells ++ k ∷ [] → k < length more → All (λ j. j < length more) after
within_so sets more cells k after within kept pushed h =
    let P : ℕ → Type 0 = λ j. j < length sets in
    let Q : ℕ → Type 0 = λ j. j < length more in
    let longer : length sets ≤ length more = omega (arith, length-take (length sets) more, ap length kept) in
    All-same Q after (cells ++ k ∷ []) pushed (All-push Q cells k (All-weaker P Q (λ j below_j. omega arith) cells within) h)
