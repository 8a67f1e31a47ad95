-- The cells of levels are drawn by names.
use Rattle.std.proofs.Common.{◌≡◌, ℕ, ◌<◌, zero, suc, Bool, true, false, List, [], ◌∷◌, length, map, take, refl, subst}
use Rattle.std.specs.Prelude.{Option, Some, None, option_and_then, slice_get, IfSome, Result, Ok, Err, IfOk, if◌then◌else◌, nat_le}
use Rattle.std.specs.Option.{option_map_or}
use Rattle.std.specs.List.{All, list_any, flat_map, enumerate_from}
use Rattle.std.proofs.lemmas.List.Elements.{All-nil, All-cons, All-append, All-head, All-tail, All-drop}
use Rattle.std.proofs.lemmas.Option.{slice_get_within}
use Rattle.pz_base.specs.Fault.{and_then}
use Rattle.pz_base.specs.Name.{name_of}
use Rattle.pz_base.specs.NameSet.{number_in}
use Rattle.pz_text.specs.declared.line.Line.{Line}
use Rattle.pz_base.specs.declared.fault.SourceFault.{SourceFault}
use Rattle.pz_base.specs.declared.fault.Code.TheVariants as code
use Rattle.pz_base.specs.Each.{each_ok}
use Rattle.pz_game.specs.Level.{is_playable}
use Rattle.pz_source.specs.Levels.{draws, glyph_of, glyphs_of, row_of_length, row_of, rows_of, is_message, is_too_large, entry_of, entries_of, read_entries, levels_of}
use Rattle.pz_game.specs.Game.{IsDrawnBy}
use Rattle.pz_game.specs.declared.denotation.Denotation.{Denotation}
use Rattle.pz_source.specs.declared.levels.TheConstants.{MOST_ENTRIES}
use Rattle.pz_game.specs.declared.level.LevelEntry.{LevelEntry}
use Rattle.pz_game.specs.declared.level.LevelEntry.TheVariants.{Message, Level}
use Rattle.pz_base.proofs.EachLemmas.{each-ok, each-some}
use Rattle.pz_source.proofs.LineLemmas.{and_then-ok}

-- a glyph is a name
pub glyph_below : (names : List (List ℕ)) (values : List Denotation) (c k : ℕ) → glyph_of names values c ≡ Some k → k < length values
glyph_below names values c k e = by (number_in names (name_of (c ∷ []))) e
  where
    drawn : (number : ℕ) (o : Option Denotation) → slice_get values number ≡ o → option_and_then (λ d. if draws d.kind then Some number else None) o ≡ Some k → k < length values
    drawn number None q h = cc
    drawn number (Some d) q h = of (draws d.kind) h
      where
        of : (b : Bool) → (if b then Some number else None) ≡ Some k → k < length values
        of true h = let is : number ≡ k = cc in subst (λ n. n < length values) is (slice_get_within values number d q)
        of false h = cc

    by : (o : Option ℕ) → option_and_then (λ number. option_and_then (λ d. if draws d.kind then Some number else None) (slice_get values number)) o ≡ Some k → k < length values
    by None h = cc
    by (Some number) h = drawn number (slice_get values number) refl h

module _ (glyph : ℕ → Option ℕ) (count : ℕ) (some : 0 < count) (below : (c k : ℕ) → glyph c ≡ Some k → k < count) where
  glyphs-below : (row : List ℕ) → IfSome (glyphs_of glyph row) (All (λ n. n < count))
  glyphs-below row = each-some (λ n. n < count) glyph (λ c. by c (glyph c) refl) row
    where
      by : (c : ℕ) (o : Option ℕ) → glyph c ≡ o → IfSome o (λ n. n < count)
      by c None q = tt
      by c (Some k) q = below c k q

  filled-below : (n last : ℕ) (row : List ℕ) → last < count → All (λ k. k < count) row → All (λ k. k < count) (row_of_length n last row)
  filled-below zero last row low all = All-nil (λ k. k < count)
  filled-below (suc n) last [] low all = All-cons (λ k. k < count) last (row_of_length n last []) low (filled-below n last [] low all)
  filled-below (suc n) last (x ∷ row) low all =
      let first = All-head (λ k. k < count) x row all in
      All-cons (λ k. k < count) x (row_of_length n x row) first (filled-below n x row first (All-drop (λ k. k < count) 1 (x ∷ row) all))

  row-below : (width : ℕ) (line : Line) → IfOk (row_of glyph width line) (All (λ n. n < count))
  row-below width line = by (glyphs_of glyph (take width line.text)) (glyphs-below (take width line.text))
    where
      by : (o : Option (List ℕ)) → IfSome o (All (λ n. n < count))
          → IfOk (option_map_or (λ row. Ok (row_of_length width 0 row)) o (let fault : SourceFault = record { code = code.BadGlyph; line = line.number } in Err fault)) (All (λ n. n < count))
      by None low = tt
      by (Some row) low = filled-below width 0 row some low

  joined-below : (rows : List (List ℕ)) → All (All (λ n. n < count)) rows → All (λ n. n < count) (flat_map (λ row. row) rows)
  joined-below [] all = All-nil (λ n. n < count)
  joined-below (row ∷ rows) all =
      All-append (λ n. n < count) row (flat_map (λ row. row) rows) (All-head (All (λ n. n < count)) row rows all) (joined-below rows (All-tail (All (λ n. n < count)) row rows all))

  rows-below : (width : ℕ) (lines : List Line) → IfOk (rows_of glyph width lines) (All (λ n. n < count))
  unfolding rows_of
  rows-below width lines =
      and_then-ok (All (All (λ n. n < count))) (All (λ n. n < count)) (λ rows. Ok (flat_map (λ row. row) rows)) (each_ok (map (row_of glyph width) lines))
      (each-ok (All (λ n. n < count)) (row_of glyph width) (row-below width) lines) joined-below

  entry-below : (above : ℕ) (lines : List Line) → IfOk (entry_of glyph above lines) (IsDrawnBy count)
  entry-below above [] = tt
  entry-below above (first ∷ rest) = by (nat_le MOST_ENTRIES above) (is_message first) (is_too_large (length first.text) (length (first ∷ rest)))
    where
      drawn : List ℕ → Result LevelEntry SourceFault
      drawn cells = Ok (Level (record { width = length first.text; height = length (first ∷ rest); cells = cells }))

      by : (a b d : Bool) → IfOk (if a then Err (record { code = code.TooLarge; line = first.number }) else (if b then Ok Message else (if d then Err (record { code = code.TooLarge; line = first.number })
          else and_then drawn (rows_of glyph (length first.text) (first ∷ rest))))) (IsDrawnBy count)
      by true b d = tt
      by false true d = tt
      by false false true = tt
      by false false false =
          and_then-ok (All (λ n. n < count)) (IsDrawnBy count) drawn (rows_of glyph (length first.text) (first ∷ rest)) (rows-below (length first.text) (first ∷ rest)) (λ cells low. low)

  levels-ok : (lines : List Line) → IfOk (levels_of glyph lines) (All (IsDrawnBy count))
  levels-ok lines =
      and_then-ok (All (IsDrawnBy count)) (All (IsDrawnBy count)) playable (read_entries glyph (entries_of [] lines))
      (each-ok (IsDrawnBy count) (λ e. entry_of glyph e.0 e.1) (λ e. entry-below e.0 e.1) (enumerate_from 0 (entries_of [] lines))) (λ es low. by es low (list_any is_playable es))
    where
      playable : List LevelEntry → Result (List LevelEntry) SourceFault
      playable es = if list_any is_playable es then Ok es else Err (record { code = code.NoLevel; line = 0 })

      by : (es : List LevelEntry) → All (IsDrawnBy count) es → (b : Bool)
          → IfOk (let r : Result (List LevelEntry) SourceFault = if b then Ok es else Err (record { code = code.NoLevel; line = 0 }) in r) (All (IsDrawnBy count))
      by es low true = low
      by es low false = tt

  pub levels-below : (lines : List Line) (entries : List LevelEntry) → levels_of glyph lines ≡ Ok entries → All (IsDrawnBy count) entries
  levels-below lines entries e = subst (λ r. IfOk r (All (IsDrawnBy count))) e (levels-ok lines)
