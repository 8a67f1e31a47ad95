-- Numbers of a level of which one is replaced: the digest and the changed cells go along.
use Rattle.std.proofs.Common.{◌≡◌, ℕ, ◌+◌, ◌-◌, ◌<◌, ◌≤◌, List, [], ◌∷◌, ◌++◌, Option, Some, None, fold, map, set, length, length-set, refl, ap, sym, ◌∙◌}
use Rattle.std.specs.Prelude.{slice_get, option_map}
use Rattle.std.proofs.lemmas.List.{length-map, map-append, map-set}
use Rattle.std.proofs.lemmas.List.Elements.{All-set}
use Rattle.std.proofs.lemmas.Option.{get_or_from_slice_get, same_Some, slice_get-map}
use Rattle.pz_sheet.proofs.ChangeLemmas.{all_found, found_more, left_from}
use Rattle.pz_sheet.specs.Changes.{CellChange, cell_there, changed_cells, differ_in}
use Rattle.pz_sheet.specs.Grid.{Grid}
use Rattle.pz_sets.specs.Next.{IsNext}
use Rattle.pz_store.specs.Book.{CellSeen, Extends}
use Rattle.pz_store.specs.Digest.{IsReplaced, cell_word, digest_of, digest_with, power_of}
use Rattle.pz_store.specs.Levels.{IsRow, changed_places, level_of}
use Rattle.pz_store.proofs.Rowing.{cell_at, level_still, row_still}

-- a number that has a word has a cell
word_of : (objects : ℕ) (seen : Option CellSeen) (word : ℕ) → option_map (cell_word objects) seen ≡ Some word → (cell : CellSeen) × ((seen ≡ Some cell) × (cell_word objects cell ≡ word))
word_of objects None word told = absurd cc
word_of objects (Some cell) word told = (cell, (refl, same_Some (cell_word objects cell) word told))

word_at : (objects : ℕ) (cells : List CellSeen) (number word : ℕ) → option_map (cell_word objects) (slice_get cells number) ≡ Some word → cell_word objects (cell_at cells number) ≡ word
word_at objects cells number word told =
    let it = word_of objects (slice_get cells number) word told in
    ap (cell_word objects) (get_or_from_slice_get cells number it.0 [] it.1.0) ∙ it.1.1

-- the digest when a number is replaced, by a book that may have got more cells
pub digest_replaced : (objects : ℕ) (frame : Grid) (cells news : List CellSeen) (numbers : List ℕ) (index number other old new power digest result : ℕ) → Extends cells news → IsRow frame cells numbers → slice_get numbers index ≡ Some number →
    option_map (cell_word objects) (slice_get news number) ≡ Some old → option_map (cell_word objects) (slice_get news other) ≡ Some new → power ≡ power_of (length numbers - index) → digest ≡ digest_of objects (level_of frame cells numbers) → IsReplaced digest old new power result →
    result ≡ digest_of objects (level_of frame news (set numbers index other))
digest_replaced objects frame cells news numbers index number other old new power digest result extends row there is_old is_new is_power is_digest replaced =
    let seen : List CellSeen = map (cell_at news) numbers in
    let words : List ℕ = map (cell_word objects) seen in
    let at : slice_get words index ≡ Some old =
    slice_get-map (cell_word objects) seen index
    ∙ ap (option_map (cell_word objects)) (slice_get-map (cell_at news) numbers index ∙ ap (option_map (cell_at news)) there)
    ∙ ap (λ (w : ℕ). Some w) (word_at objects news number old is_old) in
    let long : length numbers ≡ length words = sym (length-map seen (cell_word objects) ∙ length-map numbers (cell_at news)) in
    let so : digest ≡ fold digest_with 0 words = is_digest ∙ ap (λ (g : Grid). digest_of objects g) (sym (level_still frame cells news numbers extends row)) in
    let more : map (cell_word objects) (map (cell_at news) (set numbers index other)) ≡ set words index new =
    ap (map (cell_word objects)) (map-set (cell_at news) numbers index other)
    ∙ map-set (cell_word objects) seen index (cell_at news other)
    ∙ ap (λ (w : ℕ). set words index w) (word_at objects news other new is_new) in
    replaced words index at (is_power ∙ ap (λ (n : ℕ). power_of (n - index)) long) so ∙ ap (λ (l : List ℕ). fold digest_with 0 l) (sym more)

-- one more place that changed
pub changed_more : (level before : Grid) (olds places news : List ℕ) (from index : ℕ) → length level.cells ≡ length before.cells → IsNext (differ_in level before) from (length level.cells) (Some index) → news ≡ places ++ index ∷ [] →
    map (cell_there before) places ++ left_from level before from ≡ map (cell_there before) olds ++ changed_cells level before → map (cell_there before) news ++ left_from level before (index + 1) ≡ map (cell_there before) olds ++ changed_cells level before
changed_more level before olds places news from index long next added is =
    ap (λ (l : List ℕ). map (cell_there before) l ++ left_from level before (index + 1)) added
    ∙ ap (λ (l : List CellChange). l ++ left_from level before (index + 1)) (map-append (cell_there before) places (index ∷ []))
    ∙ found_more level before long (map (cell_there before) places) (map (cell_there before) olds ++ changed_cells level before) from index next is

places_of : (before : Grid) (places : List ℕ) → map (λ (change : CellChange). change.number) (map (cell_there before) places) ≡ places
places_of before [] = refl
places_of before (place ∷ places) = ap (λ (l : List ℕ). place ∷ l) (places_of before places)

-- all places that changed
pub changed_all : (level before : Grid) (olds places : List ℕ) (from : ℕ) → length level.cells ≡ length before.cells → from ≤ length level.cells → IsNext (differ_in level before) from (length level.cells) None →
    map (cell_there before) places ++ left_from level before from ≡ map (cell_there before) olds ++ changed_cells level before → places ≡ olds ++ changed_places level before
changed_all level before olds places from long low none is =
    let number = λ (change : CellChange). change.number in
    let found : map (cell_there before) places ≡ map (cell_there before) olds ++ changed_cells level before = all_found level before long (map (cell_there before) places) (map (cell_there before) olds ++ changed_cells level before) from low none is in
    sym (places_of before places)
    ∙ ap (map number) found
    ∙ map-append number (map (cell_there before) olds) (changed_cells level before)
    ∙ ap (λ (l : List ℕ). l ++ changed_places level before) (places_of before olds)

-- a row with another number
pub row_more : (frame new_frame : Grid) (cells news : List CellSeen) (numbers : List ℕ) (index number : ℕ) → new_frame ≡ frame → Extends cells news → number < length news → IsRow frame cells numbers → IsRow new_frame news (set numbers index number)
row_more frame new_frame cells news numbers index number same extends low row =
    let still = row_still frame cells news numbers extends row in
    record {
      long = length-set numbers index number ∙ row.long ∙ ap (λ (g : Grid). length g.cells) (sym same);
      known = All-set (λ n. n < length news) numbers index number low still.known;
    }
