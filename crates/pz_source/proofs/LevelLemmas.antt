-- Steps through the lines of LEVELS.
use Rattle.std.proofs.Common.{◌≡◌, ℕ, ◌<◌, ◌≤◌, ◌+◌, ◌-◌, zero, suc, true, false, List, [], ◌∷◌, ◌++◌, length, take, drop, get_or, map, Bor, Option, Some, Result, Ok, Err, refl, ap, sym, ◌∙◌, arith, length-drop, Bool, true≢false}
use Rattle.std.specs.List.{slice_range, list_all}
use Rattle.std.specs.Prelude.{if◌then◌else◌, option_and_then}
use Rattle.std.specs.Option.{option_map_or}
use Rattle.std.proofs.lemmas.List.Folds.{list_all-append, list_all_at}
use Rattle.std.proofs.lemmas.List.{get_or-drop}
use Rattle.pz_source.specs.Levels.{entries_of, rows_if_any, is_message, is_entry, glyphs_of, row_of, row_of_length}
use Rattle.pz_base.specs.Fault.{and_then}
use Rattle.pz_base.specs.declared.fault.Code.TheVariants as code
use Rattle.pz_base.proofs.EachLemmas.{behind, behind_at, some_behind}
use Rattle.pz_base.specs.declared.fault.SourceFault.{SourceFault}
use Rattle.pz_game.specs.declared.level.LevelEntry.{LevelEntry}
use Rattle.pz_names.specs.Objects.{is_blank}
use Rattle.pz_base.proofs.ListLemmas.{drop-next, take-next}
use Rattle.pz_text.specs.declared.line.Line.{Line}

drop-one : {A : Type 0} (i : ℕ) (xs : List A) → drop 1 (drop i xs) ≡ drop (i + 1) xs
drop-one zero xs = refl
drop-one {A = A} (suc i) [] = let none : List A = [] in ap (λ n. drop n none) (let e : suc (i + 1) ≡ suc i + 1 = omega arith in e)
drop-one (suc i) (x ∷ xs) = drop-one i xs ∙ ap (λ n. drop n (x ∷ xs)) (let e : suc (i + 1) ≡ suc i + 1 = omega arith in e)

-- one more cell of a row
pub filled-step : (row : List ℕ) (width last i : ℕ) → i < width
    → row_of_length (width - i) last (drop i row) ≡ get_or row i last ∷ row_of_length (width - (i + 1)) (get_or row i last) (drop (i + 1) row)
filled-step row width last i lt =
    let more : width - i ≡ suc (width - (i + 1)) = omega arith in
    let here : get_or (drop i row) 0 last ≡ get_or row i last = get_or-drop i row 0 last ∙ ap (λ n. get_or row n last) (let e : i + 0 ≡ i = omega arith in e) in
    ap (λ n. row_of_length n last (drop i row)) more
    ∙ (ap (λ x. x ∷ row_of_length (width - (i + 1)) x (drop 1 (drop i row))) here ∙ ap (λ r. get_or row i last ∷ row_of_length (width - (i + 1)) (get_or row i last) r) (drop-one i row))

-- one more number of a row
pub number-next : (glyph : ℕ → Option ℕ) (row : List ℕ) (i c : ℕ) (done next : List ℕ) (number : ℕ) → i < length row → c ≡ get_or row i c → glyph c ≡ Some number → next ≡ done ++ number ∷ []
    → some_behind glyph next (drop (i + 1) row) ≡ some_behind glyph done (drop i row)
number-next glyph row i c done next number lt is got more =
    ap (λ found. some_behind glyph found (drop (i + 1) row)) more
    ∙ (ap (option_and_then (λ n. some_behind glyph (done ++ n ∷ []) (drop (i + 1) row))) (sym got) ∙ ap (some_behind glyph done) (sym (drop-next row i c lt is)))

-- one more row of a level
pub row-next : (glyph : ℕ → Option ℕ) (width : ℕ) (lines : List Line) (i : ℕ) (line : Line) (done next row : List ℕ) → i < length lines → line ≡ get_or lines i line → glyphs_of glyph (take width line.text) ≡ Some row → next ≡ done ++ row_of_length width 0 row
    → behind (λ cells. cells) (row_of glyph width) next (drop (i + 1) lines) ≡ behind (λ cells. cells) (row_of glyph width) done (drop i lines)
row-next glyph width lines i line done next row lt is got more =
    let read : row_of glyph width line ≡ Ok (row_of_length width 0 row) = ap (λ numbers. option_map_or (λ r. Ok (row_of_length width 0 r)) numbers (Err (record { code = code.BadGlyph; line = line.number }))) got in
    ap (λ cells. behind (λ r. r) (row_of glyph width) cells (drop (i + 1) lines)) more
    ∙ (ap (and_then (λ cells. behind (λ r. r) (row_of glyph width) (done ++ cells) (drop (i + 1) lines))) (sym read) ∙ ap (behind (λ r. r) (row_of glyph width) done) (sym (drop-next lines i line lt is)))

-- one more entry, read by the number of those above it
pub entry-next : (read : ℕ → List Line → Result LevelEntry SourceFault) (blocks : List (Bor (List Line))) (i : ℕ) (block : Bor (List Line)) (done next : List LevelEntry) (entry : LevelEntry) → i < length blocks → block ≡ get_or blocks i block
    → read (length done) block.now ≡ Ok entry → next ≡ done ++ entry ∷ [] → behind_at read next (map (λ b. b.now) (drop (i + 1) blocks)) ≡ behind_at read done (map (λ b. b.now) (drop i blocks))
entry-next read blocks i block done next entry lt is got more =
    ap (λ entries. behind_at read entries (map (λ b. b.now) (drop (i + 1) blocks))) more
    ∙ (ap (and_then (λ e. behind_at read (done ++ e ∷ []) (map (λ b. b.now) (drop (i + 1) blocks)))) (sym got) ∙ ap (λ bs. behind_at read done (map (λ (b : Bor (List Line)). b.now) bs)) (sym (drop-next blocks i block lt is)))

pub range-next : {A : Type 0} (xs : List A) (start place : ℕ) (x : A) → start ≤ place → place < length xs → x ≡ get_or xs place x
    → slice_range xs start (place + 1) ≡ slice_range xs start place ++ x ∷ []
range-next xs start place x within below is =
    let more : (place + 1) - start ≡ (place - start) + 1 = omega arith in
    let long = length-drop start xs in
    let low : place - start < length (drop start xs) = omega arith in
    let at : start + (place - start) ≡ place = omega arith in
    let here : x ≡ get_or (drop start xs) (place - start) x = is ∙ (ap (λ n. get_or xs n x) (sym at) ∙ sym (get_or-drop start xs (place - start) x)) in
    ap (λ n. take n (drop start xs)) more ∙ take-next (drop start xs) (place - start) x low here

pub entries-row : (rows : List Line) (line : Line) (more : List Line) → is_blank line ≡ false → is_message line ≡ false
    → entries_of rows (line ∷ more) ≡ entries_of (rows ++ line ∷ []) more
entries-row rows line more e m = rw (e, m) refl

-- the first lines of the entries aren't blank
entries-drawn : (rows lines : List Line) → list_all is_entry (rows_if_any rows) ≡ true → list_all is_entry (entries_of rows lines) ≡ true
entries-drawn rows [] h = h
entries-drawn rows (line ∷ lines) h = by (is_blank line) refl (is_message line) (entries-drawn [] lines refl) (λ k. entries-drawn (rows ++ line ∷ []) lines k)
  where
    longer : (rows : List Line) → list_all is_entry (rows_if_any rows) ≡ true → is_blank line ≡ false → list_all is_entry (rows_if_any (rows ++ line ∷ [])) ≡ true
    longer [] h e = rw e refl
    longer (row ∷ rows) h e = h

    by : (b : Bool) → is_blank line ≡ b → (m : Bool) → list_all is_entry (entries_of [] lines) ≡ true
        → (list_all is_entry (rows_if_any (rows ++ line ∷ [])) ≡ true → list_all is_entry (entries_of (rows ++ line ∷ []) lines) ≡ true)
        → list_all is_entry (if b then rows_if_any rows ++ entries_of [] lines else (if m then rows_if_any rows ++ (line ∷ []) ∷ entries_of [] lines else entries_of (rows ++ line ∷ []) lines)) ≡ true
    by true e m next more = list_all-append is_entry (rows_if_any rows) (entries_of [] lines) ∙ rw (h, next) refl
    by false e true next more = list_all-append is_entry (rows_if_any rows) ((line ∷ []) ∷ entries_of [] lines) ∙ rw (h, e, next) refl
    by false e false next more = more (longer rows h e)

pub entry-drawn : (lines : List Line) (k : ℕ) (x : List Line) → k < length (entries_of [] lines) → x ≡ get_or (entries_of [] lines) k x → is_entry x ≡ true
entry-drawn lines k x lt is = by (is_entry x) refl
  where
    by : (b : Bool) → is_entry x ≡ b → is_entry x ≡ true
    by true e = e
    by false e = absurd (true≢false (sym (entries-drawn [] lines refl) ∙ list_all_at is_entry (entries_of [] lines) k x lt (ap is_entry (sym is) ∙ e)))
