-- The fault of a source is no want of memory, and names a line of its text, or 0.
use Rattle.std.proofs.Common.{◌≡◌, ◌≢◌, ◌+◌, sym, ◌||◌, ℕ, ◌≤◌, zero, suc, Bool, true, false, not, ◌&&◌, ◌==◌, map, filter, List, [], ◌∷◌, ◌++◌, length, drop, take, Option, Some, None, IfSome, Result, Ok, Err, refl, subst, arith}
use Rattle.std.specs.Prelude.{option_and_then, option_map, if◌then◌else◌, nat_lt, nat_le, IfOk, IfErr, codes, is_some}
use Rattle.std.specs.Option.{option_map_or}
use Rattle.std.specs.List.{All, list_any, flat_map, enumerate_from}
use Rattle.std.specs.Str.{chars, bytes_eq}
use Rattle.std.proofs.lemmas.List.Elements.{All-nil, All-cons, All-head, All-tail, All-append, All-push, All-drop, All-map, All-filter}
use Rattle.pz_text.specs.Check.{number_of, too_long, misplaces, reaches_place, misplaced_heading, has_section, missing_section, lines_of}
use Rattle.pz_text.specs.Cutting.{lines_of_text}
use Rattle.pz_base.specs.Fault.{first_fault, or_else, unless, and_then}
use Rattle.pz_text.specs.Section.{lines_in, place_of}
use Rattle.pz_base.specs.NameSet.{is_name_of, number_in}
use Rattle.pz_text.specs.Words.{names_of}
use Rattle.pz_text.specs.declared.line.Line.{Line}
use Rattle.pz_text.specs.declared.line.Section.TheVariants as section
use Rattle.pz_base.specs.declared.fault.Code.{Code}
use Rattle.pz_base.specs.declared.fault.Code.TheVariants as code
use Rattle.pz_base.specs.declared.fault.SourceFault.{SourceFault}
use Rattle.pz_names.specs.Cycles.{reaches_itself, is_on_cycle}
use Rattle.pz_names.specs.declared.meaning.Meaning.{Meaning}
use Rattle.pz_names.specs.declared.objects.Paragraph.{Paragraph}
use Rattle.pz_names.specs.declared.objects.TheConstants.{MOST_NAMES}
use Rattle.pz_game.specs.declared.limits.TheConstants.{MOST_OBJECTS, MOST_LAYERS}
use Rattle.pz_game.specs.declared.denotation.Kind.{Kind}
use Rattle.pz_game.specs.declared.denotation.Kind.TheVariants.{Aggregate}
use Rattle.pz_game.specs.declared.win_line.Quantifier.{Quantifier}
use Rattle.pz_names.specs.Denotation.{values_of}
use Rattle.pz_game.specs.declared.game.GameParts.{GameParts}
use Rattle.pz_names.specs.Kinds.{kind_in, mixes, is_mixed, is_of_kind}
use Rattle.pz_source.specs.Layers.{layer_names, layer_lines, name_line_at, layer_of, holds, lies_nowhere, layers_of, fault_of_layers}
use Rattle.pz_source.specs.Layers as layers
use Rattle.pz_names.specs.Legend.{sides, said_by, defined_by, definition_of, definitions_of, defined_names, misnames_by, is_full, names_in, line_number, line_at, speaks_of_unknown}
use Rattle.pz_names.specs.Legend as legend
use Rattle.pz_base.specs.Each.{each_ok}
use Rattle.pz_game.specs.Level.{is_playable}
use Rattle.pz_source.specs.Levels.{is_message, rows_if_any, entries_of, glyph_of, glyphs_of, row_of_length, row_of, rows_of, is_too_large, entry_of, read_entries, levels_of}
use Rattle.pz_names.specs.Meaning.{meanings_of}
use Rattle.pz_source.specs.Missing.{names_single, fault_of_needs}
use Rattle.pz_names.specs.Objects.{object_names, is_blank, sprite_rows, paragraph_of, behind_paragraph, paragraphs_within, paragraphs_of, name_line_of, has_repeat, paragraph_at, misnames, objects_of}
use Rattle.pz_source.specs.Profile.{leaves_profile, is_outside, outside_profile, options_of}
use Rattle.pz_source.specs.Reading.{line_count, first_names, game_over, game_of_objects, game_of_lines, source_of}
use Rattle.pz_source.specs.Rules.{rule_lines}
use Rattle.pz_names.specs.Values.{names_of_source, meanings_of_source, fault_of_definitions, fault_of_legend}
use Rattle.pz_source.specs.Wins.{at_line, win_about, quantifier_of, win_of, win_at, wins_of}
use Rattle.pz_game.specs.declared.denotation.Denotation.{Denotation}
use Rattle.pz_names.specs.declared.legend.Definition.{Definition}
use Rattle.pz_names.specs.declared.legend.Said.{Said}
use Rattle.pz_source.specs.declared.levels.TheConstants.{MOST_ENTRIES}
use Rattle.pz_game.specs.declared.level.LevelEntry.{LevelEntry}
use Rattle.pz_game.specs.declared.level.LevelEntry.TheVariants.{Message, Level}
use Rattle.pz_names.specs.declared.name_line.NameLine.{NameLine}
use Rattle.pz_game.specs.declared.win_line.WinLine.{WinLine}
use Rattle.pz_base.proofs.EachLemmas.{each-fault, All-numbered}
use Rattle.pz_source.proofs.LineLemmas.{IsWithin, IsOfText, Names, All-filter_map, lines_in-all, first_fault-within, or_else-within, unless-within, unless-ok, any-ok, and_then-within, cut-within, lines-all}

-- what the checks name of their things is no want of memory

paragraph-sound : (above : List Paragraph) (paragraph : Paragraph) → IfSome (misnames above paragraph) IsOfText
paragraph-sound above paragraph =
    let names = object_names (map name_line_of above) in
    by paragraph.is_whole (has_repeat names paragraph.line.names) (nat_le MOST_OBJECTS (length above) || nat_lt MOST_NAMES (length (names ++ paragraph.line.names)))
  where
    by : (whole repeats many : Bool) → IfSome (if not whole then Some code.BadObject else (if repeats then Some code.Duplicate else (if many then Some code.TooLarge else None))) IsOfText
    by false repeats many = λ e. cc
    by true true many = λ e. cc
    by true false true = λ e. cc
    by true false false = tt

line-sound : (objects : List (List ℕ)) (above : List Line) (line : Line) → IfSome (legend.misnames objects above line) IsOfText
line-sound objects above line = by (is_blank line) (definition_of line)
  where
    there : List (List ℕ)
    there = objects ++ defined_names above

    named : (known full : Bool) → IfSome (if known then Some code.Duplicate else (if full then Some code.TooLarge else None)) IsOfText
    named true full = λ e. cc
    named false true = λ e. cc
    named false false = tt

    by : (blank : Bool) (definition : Option Definition) → IfSome (if blank then None else misnames_by there definition) IsOfText
    by true definition = tt
    by false None = λ e. cc
    by false (Some definition) = named (is_name_of there definition.name) (is_full there)

-- one code, if at all
one-sound : (c : Code) → IsOfText c → (b : Bool) → IfSome (if b then Some c else None) IsOfText
one-sound c sound true = sound
one-sound c sound false = tt

unknown-sound : (names : List (List ℕ)) (above : List Definition) (definition : Definition) → IfSome (speaks_of_unknown names above definition) IsOfText
unknown-sound names above definition = one-sound code.Unknown (λ e. cc) (list_any (λ part. not (is_name_of names part)) (names_in definition.said))

circle-sound : (first : ℕ) (meanings : List Meaning) (above : List Definition) (definition : Definition) → IfSome (reaches_itself first meanings above definition) IsOfText
circle-sound first meanings above definition = one-sound code.BadLegend (λ e. cc) (is_on_cycle meanings (first + length above))

mixture-sound : (kind : List ℕ → Option Kind) (above : List Definition) (definition : Definition) → IfSome (mixes kind above definition) IsOfText
mixture-sound kind above definition = one-sound code.Mixed (λ e. cc) (is_mixed kind definition.said)

layer-sound : (names : List (List ℕ)) (values : List Denotation) (above : List NameLine) (layer : NameLine) → IfSome (layers.misplaces names values above layer) IsOfText
layer-sound names values above layer =
    by (list_any (λ name. not (is_name_of names name)) layer.names) (list_any (λ name. is_of_kind Aggregate (kind_in names values name)) layer.names) (nat_le MOST_LAYERS (length above))
  where
    by : (unknown mixed many : Bool) → IfSome (if unknown then Some code.Unknown else (if mixed then Some code.Mixed else (if many then Some code.TooLarge else None))) IsOfText
    by true mixed many = λ e. cc
    by false true many = λ e. cc
    by false false true = λ e. cc
    by false false false = tt

nowhere-sound : (layer : ℕ → Option ℕ) (above : List NameLine) (line : NameLine) → IfSome (lies_nowhere layer above line) IsOfText
nowhere-sound layer above line = by (is_some (layer (length above)))
  where
    by : (b : Bool) → IfSome (if b then None else Some code.NoLayer) IsOfText
    by true = tt
    by false = λ e. cc

profile-sound : (above : List Line) (line : Line) → IfSome (leaves_profile above line) IsOfText
profile-sound above line = one-sound code.OutsideProfile (λ e. cc) (is_outside line.section line.text)

heading-sound : (above : List Line) (line : Line) → IfSome (misplaces above line) IsOfText
heading-sound above line = one-sound code.Section (λ e. cc) (line.is_heading && list_any (reaches_place (place_of line.section)) above)

about-sound : (quantifier : Option Quantifier) (subject : Option ℕ) (on : Option (Option ℕ)) → IfErr (win_about quantifier subject on) IsOfText
about-sound None subject on = λ e. cc
about-sound (Some quantifier) None on = λ e. cc
about-sound (Some quantifier) (Some subject) None = λ e. cc
about-sound (Some quantifier) (Some subject) (Some on) = tt

win-sound : (names words : List (List ℕ)) → IfErr (win_of names words) IsOfText
win-sound names [] = λ e. cc
win-sound names (word ∷ []) = λ e. cc
win-sound names (word ∷ subject ∷ []) = about-sound (quantifier_of word) (number_in names subject) (Some None)
win-sound names (word ∷ subject ∷ joint ∷ []) = λ e. cc
win-sound names (word ∷ subject ∷ joint ∷ on ∷ []) = by (bytes_eq joint (codes "on"))
  where
    by : (b : Bool) → IfErr (if b then win_about (quantifier_of word) (number_in names subject) (option_map Some (number_in names on)) else Err code.BadWin) IsOfText
    by true = about-sound (quantifier_of word) (number_in names subject) (option_map Some (number_in names on))
    by false = λ e. cc
win-sound names (word ∷ subject ∷ joint ∷ on ∷ other ∷ more) = λ e. cc

module _ (n : ℕ) where
  -- OBJECTS

  behind_paragraph-within : (lines : List Line) → All (IsWithin n) lines → All (IsWithin n) (behind_paragraph lines)
  behind_paragraph-within [] all = All-nil (IsWithin n)
  behind_paragraph-within (colours ∷ lines) all = by (is_blank colours)
    where
      by : (b : Bool) → All (IsWithin n) (if b then colours ∷ lines else drop (length (sprite_rows 5 lines)) lines)
      by true = all
      by false = All-drop (IsWithin n) (length (sprite_rows 5 lines)) lines (All-tail (IsWithin n) colours lines all)

  paragraphs-within : (most : ℕ) (lines : List Line) → All (IsWithin n) lines → All (λ paragraph. paragraph_at paragraph ≤ n) (paragraphs_within most lines)
  paragraphs-within zero lines all = All-nil (λ paragraph. paragraph_at paragraph ≤ n)
  paragraphs-within (suc most) [] all = All-nil (λ paragraph. paragraph_at paragraph ≤ n)
  paragraphs-within (suc most) (line ∷ lines) all =
      by (is_blank line) (paragraphs-within most lines (All-tail (IsWithin n) line lines all))
      (paragraphs-within most (behind_paragraph lines) (behind_paragraph-within lines (All-tail (IsWithin n) line lines all)))
    where
      by : (b : Bool) → All (λ paragraph. paragraph_at paragraph ≤ n) (paragraphs_within most lines) → All (λ paragraph. paragraph_at paragraph ≤ n) (paragraphs_within most (behind_paragraph lines))
          → All (λ paragraph. paragraph_at paragraph ≤ n) (if b then paragraphs_within most lines else paragraph_of line lines ∷ paragraphs_within most (behind_paragraph lines))
      by true skipped behind = skipped
      by false skipped behind = All-cons (λ paragraph. paragraph_at paragraph ≤ n) (paragraph_of line lines) (paragraphs_within most (behind_paragraph lines)) (All-head (IsWithin n) line lines all) behind

  objects-fault : (lines : List Line) → All (IsWithin n) lines → IfErr (objects_of lines) (Names n)
  objects-fault lines all =
      unless-within n (first_fault paragraph_at misnames [] (paragraphs_of lines)) (Ok (map-of lines))
      (first_fault-within n paragraph_at misnames [] (paragraphs_of lines) paragraph-sound (paragraphs-within (length lines) lines all)) tt
    where
      map-of : List Line → List NameLine
      map-of ls = map name_line_of (paragraphs_of ls)

  objects-within : (lines : List Line) → All (IsWithin n) lines → IfOk (objects_of lines) (All (λ line. name_line_at line ≤ n))
  objects-within lines all =
      unless-ok (All (λ line. name_line_at line ≤ n)) (first_fault paragraph_at misnames [] (paragraphs_of lines)) (Ok (map name_line_of (paragraphs_of lines)))
      (All-map (λ line. name_line_at line ≤ n) name_line_of (paragraphs_of lines) (paragraphs-within (length lines) lines all))

  -- LEGEND

  definition-within : (line : Line) → IsWithin n line → IfSome (definition_of line) (λ d. line_at d ≤ n)
  definition-within line low = by (sides line.text)
    where
      said : (name : List ℕ) (o : Option Said) → IfSome (option_map (λ said. let d : Definition = record { number = line.number; name = name; said = said } in d) o) (λ d. line_at d ≤ n)
      said name None = tt
      said name (Some s) = low

      defined : (left right : List (List ℕ)) → IfSome (defined_by line.number left right) (λ d. line_at d ≤ n)
      defined [] right = tt
      defined (name ∷ []) right = said name (said_by right)
      defined (name ∷ other ∷ more) right = tt

      by : (o : Option (List ℕ × List ℕ)) → IfSome (option_and_then (λ both. defined_by line.number (names_of both.0) (names_of both.1)) o) (λ d. line_at d ≤ n)
      by None = tt
      by (Some both) = defined (names_of both.0) (names_of both.1)

  definitions-within : (lines : List Line) → All (IsWithin n) lines → All (λ d. line_at d ≤ n) (definitions_of lines)
  definitions-within lines all = All-filter_map (IsWithin n) (λ d. line_at d ≤ n) definition_of definition-within lines all

  legend-fault : (objects : List NameLine) (lines : List Line) → All (IsWithin n) lines → IfSome (fault_of_legend objects lines) (Names n)
  legend-fault objects lines all =
      let definitions = definitions_of lines in
      let names = names_of_source objects definitions in
      let meanings = meanings_of objects names definitions in
      let unknown = first_fault line_at (speaks_of_unknown names) [] definitions in
      let cycles = first_fault line_at (reaches_itself (length (object_names objects)) meanings) [] definitions in
      let mixed = first_fault line_at (mixes (kind_in names (values_of meanings))) [] definitions in
      let low = definitions-within lines all in
      or_else-within n (first_fault line_number (legend.misnames (object_names objects)) [] lines) (fault_of_definitions objects definitions)
      (first_fault-within n line_number (legend.misnames (object_names objects)) [] lines (line-sound (object_names objects)) all)
      (or_else-within n unknown (or_else cycles mixed) (first_fault-within n line_at (speaks_of_unknown names) [] definitions (unknown-sound names) low)
      (or_else-within n cycles mixed (first_fault-within n line_at (reaches_itself (length (object_names objects)) meanings) [] definitions (circle-sound (length (object_names objects)) meanings) low)
      (first_fault-within n line_at (mixes (kind_in names (values_of meanings))) [] definitions (mixture-sound (kind_in names (values_of meanings))) low)))

  -- the names that each game needs

  needs-fault : (names : List (List ℕ)) (values : List Denotation) → IfSome (fault_of_needs names values) (Names n)
  needs-fault names values = by (names_single names values (codes "background") && names_single names values (codes "player"))
    where
      by : (b : Bool) → IfSome (if b then None else (let fault : SourceFault = record { code = code.Missing; line = 0 } in Some fault)) (Names n)
      by true = tt
      by false = (λ e. cc, omega arith)

  -- COLLISIONLAYERS

  layer_lines-within : (lines : List Line) → All (IsWithin n) lines → All (λ line. name_line_at line ≤ n) (layer_lines lines)
  layer_lines-within [] all = All-nil (λ line. name_line_at line ≤ n)
  layer_lines-within (line ∷ lines) all = by (length (layer_names line.text) == 0) (layer_lines lines) (layer_lines-within lines (All-tail (IsWithin n) line lines all))
    where
      by : (b : Bool) (rest : List NameLine) → All (λ line. name_line_at line ≤ n) rest
          → All (λ line. name_line_at line ≤ n) (if b then rest else record { number = line.number; names = layer_names line.text } ∷ rest)
      by true rest low = low
      by false rest low = All-cons (λ line. name_line_at line ≤ n) (record { number = line.number; names = layer_names line.text }) rest (All-head (IsWithin n) line lines all) low

  layers-fault : (objects : List NameLine) (names : List (List ℕ)) (values : List Denotation) (lines : List Line) → All (λ line. name_line_at line ≤ n) objects → All (IsWithin n) lines
      → IfSome (fault_of_layers objects names values lines) (Names n)
  layers-fault objects names values lines there all =
      or_else-within n (first_fault name_line_at (layers.misplaces names values) [] (layer_lines lines))
      (first_fault name_line_at (lies_nowhere (layer_of (holds names values) (layer_lines lines))) [] objects)
      (first_fault-within n name_line_at (layers.misplaces names values) [] (layer_lines lines) (layer-sound names values) (layer_lines-within lines all))
      (first_fault-within n name_line_at (lies_nowhere (layer_of (holds names values) (layer_lines lines))) [] objects (nowhere-sound (layer_of (holds names values) (layer_lines lines))) there)

  -- WINCONDITIONS

  at_line-within : {A : Type 0} (number : ℕ) (r : Result A Code) → IfErr r IsOfText → number ≤ n → IfErr (at_line number r) (Names n)
  at_line-within number (Ok x) sound low = tt
  at_line-within number (Err code) sound low = (sound, low)

  wins-fault : (names : List (List ℕ)) (lines : List Line) → All (IsWithin n) lines → IfErr (wins_of names lines) (Names n)
  wins-fault names lines all =
      each-fault (IsWithin n) (Names n) (win_at names) (λ line low. at_line-within line.number (win_of names (names_of line.text)) (win-sound names (names_of line.text)) low) (filter (λ line. not (is_blank line)) lines)
      (All-filter (λ line. not (is_blank line)) (IsWithin n) lines all)

  -- LEVELS

  closed-within : (rows : List Line) → All (IsWithin n) rows → All (All (IsWithin n)) (rows_if_any rows)
  closed-within [] all = All-nil (All (IsWithin n))
  closed-within (row ∷ rows) all = All-cons (All (IsWithin n)) (row ∷ rows) [] all (All-nil (All (IsWithin n)))

  entries-within : (rows lines : List Line) → All (IsWithin n) rows → All (IsWithin n) lines → All (All (IsWithin n)) (entries_of rows lines)
  entries-within rows [] above all = closed-within rows above
  entries-within rows (line ∷ lines) above all =
      by (is_blank line) (is_message line) (entries-within [] lines (All-nil (IsWithin n)) (All-tail (IsWithin n) line lines all))
      (entries-within (rows ++ line ∷ []) lines (All-push (IsWithin n) rows line above (All-head (IsWithin n) line lines all)) (All-tail (IsWithin n) line lines all))
    where
      by : (blank message : Bool) → All (All (IsWithin n)) (entries_of [] lines) → All (All (IsWithin n)) (entries_of (rows ++ line ∷ []) lines)
          → All (All (IsWithin n)) (if blank then rows_if_any rows ++ entries_of [] lines
          else (if message then rows_if_any rows ++ (line ∷ []) ∷ entries_of [] lines else entries_of (rows ++ line ∷ []) lines))
      by true message new longer = All-append (All (IsWithin n)) (rows_if_any rows) (entries_of [] lines) (closed-within rows above) new
      by false true new longer =
          All-append (All (IsWithin n)) (rows_if_any rows) ((line ∷ []) ∷ entries_of [] lines) (closed-within rows above)
          (All-cons (All (IsWithin n)) (line ∷ []) (entries_of [] lines) (All-cons (IsWithin n) line [] (All-head (IsWithin n) line lines all) (All-nil (IsWithin n))) new)
      by false false new longer = longer

  row-fault : (glyph : ℕ → Option ℕ) (width : ℕ) (line : Line) → IsWithin n line → IfErr (row_of glyph width line) (Names n)
  row-fault glyph width line low = by (glyphs_of glyph (take width line.text))
    where
      by : (o : Option (List ℕ)) → IfErr (option_map_or (λ row. Ok (row_of_length width 0 row)) o (let fault : SourceFault = record { code = code.BadGlyph; line = line.number } in Err fault)) (Names n)
      by None = (λ e. cc, low)
      by (Some row) = tt

  rows-fault : (glyph : ℕ → Option ℕ) (width : ℕ) (lines : List Line) → All (IsWithin n) lines → IfErr (rows_of glyph width lines) (Names n)
  unfolding rows_of
  rows-fault glyph width lines all =
      let rows = each_ok (map (row_of glyph width) lines) in
      and_then-within n (λ _. Unit {0}) (λ rows. Ok (flat_map (λ row. row) rows)) rows (each-fault (IsWithin n) (Names n) (row_of glyph width) (row-fault glyph width) lines all) (any-ok rows)
      (λ rows read. tt)

  entry-fault : (glyph : ℕ → Option ℕ) (above : ℕ) (lines : List Line) → All (IsWithin n) lines → IfErr (entry_of glyph above lines) (Names n)
  entry-fault glyph above [] all = tt
  entry-fault glyph above (first ∷ rest) all = by (nat_le MOST_ENTRIES above) (is_message first) (is_too_large width height)
    where
      width : ℕ
      width = length first.text

      height : ℕ
      height = length (first ∷ rest)

      drawn : List ℕ → Result LevelEntry SourceFault
      drawn cells = Ok (Level (record { width = width; height = height; cells = cells }))

      by : (many message large : Bool) → IfErr (if many then Err (record { code = code.TooLarge; line = first.number })
          else (if message then Ok Message
          else (if large then Err (record { code = code.TooLarge; line = first.number })
          else and_then drawn (rows_of glyph width (first ∷ rest))))) (Names n)
      by true message large = (λ e. cc, All-head (IsWithin n) first rest all)
      by false true large = tt
      by false false true = (λ e. cc, All-head (IsWithin n) first rest all)
      by false false false =
          and_then-within n (λ _. Unit {0}) drawn (rows_of glyph width (first ∷ rest)) (rows-fault glyph width (first ∷ rest) all) (any-ok (rows_of glyph width (first ∷ rest)))
          (λ cells read. tt)

  read_entries-fault : (glyph : ℕ → Option ℕ) (entries : List (List Line)) → All (All (IsWithin n)) entries → IfErr (read_entries glyph entries) (Names n)
  read_entries-fault glyph entries all =
      each-fault (λ e. All (IsWithin n) e.1) (Names n) (λ e. entry_of glyph e.0 e.1) (λ e low. entry-fault glyph e.0 e.1 low) (enumerate_from 0 entries)
      (All-numbered (All (IsWithin n)) 0 entries all)

  levels-fault : (glyph : ℕ → Option ℕ) (lines : List Line) → All (IsWithin n) lines → IfErr (levels_of glyph lines) (Names n)
  levels-fault glyph lines all =
      and_then-within n (λ _. Unit {0}) chosen (read_entries glyph (entries_of [] lines))
      (read_entries-fault glyph (entries_of [] lines) (entries-within [] lines (All-nil (IsWithin n)) all)) (any-ok (read_entries glyph (entries_of [] lines)))
      (λ entries read. by entries (list_any is_playable entries))
    where
      chosen : List LevelEntry → Result (List LevelEntry) SourceFault
      chosen entries = if list_any is_playable entries then Ok entries else Err (record { code = code.NoLevel; line = 0 })

      by : (entries : List LevelEntry) (b : Bool) → IfErr (let r : Result (List LevelEntry) SourceFault = if b then Ok entries else Err (record { code = code.NoLevel; line = 0 }) in r) (Names n)
      by entries true = tt
      by entries false = (λ e. cc, omega arith)

  -- the game

  game_over-fault : (lines : List Line) (objects : List NameLine) (names : List (List ℕ)) (values : List Denotation) → All (IsWithin n) lines → All (λ line. name_line_at line ≤ n) objects
      → IfErr (game_over lines objects names values) (Names n)
  game_over-fault lines objects names values all there =
      unless-within n (fault_of_needs names values) placed (needs-fault names values)
      (unless-within n (fault_of_layers objects names values (lines_in section.Layers lines)) won
      (layers-fault objects names values (lines_in section.Layers lines) there (lines_in-all (IsWithin n) section.Layers lines all))
      (and_then-within n (λ _. Unit {0}) levelled (wins_of names (lines_in section.Wins lines))
      (wins-fault names (lines_in section.Wins lines) (lines_in-all (IsWithin n) section.Wins lines all)) (any-ok (wins_of names (lines_in section.Wins lines)))
      (λ wins read. and_then-within n (λ _. Unit {0}) (made wins) (levels_of (glyph_of names values) (lines_in section.Levels lines))
      (levels-fault (glyph_of names values) (lines_in section.Levels lines) (lines_in-all (IsWithin n) section.Levels lines all)) (any-ok (levels_of (glyph_of names values) (lines_in section.Levels lines)))
      (λ entries done. tt))))
    where
      made : List WinLine → List LevelEntry → Result GameParts SourceFault
      made wins entries = Ok (record {
        objects = first_names objects;
        names = names;
        values = values;
        layers = layers_of objects names values (lines_in section.Layers lines);
        depth = length (layer_lines (lines_in section.Layers lines));
        rules = rule_lines (lines_in section.Rules lines);
        wins = wins;
        levels = entries;
        options = options_of (lines_in section.Prelude lines);
      })

      levelled : List WinLine → Result GameParts SourceFault
      levelled wins = and_then (made wins) (levels_of (glyph_of names values) (lines_in section.Levels lines))

      won : Result GameParts SourceFault
      won = and_then levelled (wins_of names (lines_in section.Wins lines))

      placed : Result GameParts SourceFault
      placed = unless (fault_of_layers objects names values (lines_in section.Layers lines)) won

  game_of_objects-fault : (lines : List Line) (objects : List NameLine) → All (IsWithin n) lines → All (λ line. name_line_at line ≤ n) objects → IfErr (game_of_objects lines objects) (Names n)
  game_of_objects-fault lines objects all there =
      let definitions = definitions_of (lines_in section.Legend lines) in
      let names = names_of_source objects definitions in
      let values = values_of (meanings_of_source objects definitions) in
      unless-within n (fault_of_legend objects (lines_in section.Legend lines)) (game_over lines objects names values)
      (legend-fault objects (lines_in section.Legend lines) (lines_in-all (IsWithin n) section.Legend lines all)) (game_over-fault lines objects names values all there)

  game_of_lines-fault : (lines : List Line) → All (IsWithin n) lines → IfErr (game_of_lines lines) (Names n)
  game_of_lines-fault lines all =
      let part = lines_in section.Objects lines in
      let low = lines_in-all (IsWithin n) section.Objects lines all in
      unless-within n (outside_profile lines) (and_then (game_of_objects lines) (objects_of part)) (first_fault-within n number_of leaves_profile [] lines profile-sound all)
      (and_then-within n (All (λ line. name_line_at line ≤ n)) (game_of_objects lines) (objects_of part) (objects-fault part low) (objects-within part low)
      (λ objects there. game_of_objects-fault lines objects all there))

  -- the lines of a text

  too_long-within : (text : List ℕ) → IfSome (too_long text) (Names n)
  too_long-within text = by (nat_lt 1_048_576 (length text))
    where
      by : (b : Bool) → IfSome (if b then (let fault : SourceFault = record { code = code.TooLong; line = 0 } in Some fault) else None) (Names n)
      by true = (λ e. cc, omega arith)
      by false = tt

  missing_section-within : (lines : List Line) → IfSome (missing_section lines) (Names n)
  missing_section-within lines = by (has_section section.Objects lines && has_section section.Legend lines && has_section section.Layers lines && has_section section.Levels lines)
    where
      by : (b : Bool) → IfSome (if b then None else (let fault : SourceFault = record { code = code.Section; line = 0 } in Some fault)) (Names n)
      by true = tt
      by false = (λ e. cc, omega arith)

  lines-fault : (text : List ℕ) → All (IsWithin n) (lines_of_text (chars text)) → IfErr (lines_of text) (Names n)
  lines-fault text all =
      let lines = lines_of_text (chars text) in
      let whole : Result (List Line) SourceFault = unless (missing_section lines) (Ok lines) in
      unless-within n (too_long text) (unless (misplaced_heading lines) whole) (too_long-within text)
      (unless-within n (misplaced_heading lines) whole (first_fault-within n number_of misplaces [] lines heading-sound all)
      (unless-within n (missing_section lines) (Ok lines) (missing_section-within lines) tt))

-- the fault of a text names a line of it, or 0
pub source-fault : (text : List ℕ) → IfErr (source_of text) (Names (line_count text))
unfolding source_of
source-fault text =
    let n = line_count text in
    let all = cut-within (chars text) in
    and_then-within n (All (IsWithin n)) game_of_lines (lines_of text) (lines-fault n text all) (lines-all (IsWithin n) text all) (λ lines low. game_of_lines-fault n lines low)

-- what is read of a text: its game, or its fault
module _ (text : List ℕ) where
  pub given-game : (r : Result GameParts SourceFault) → r ≡ source_of text → IfOk r (λ game. source_of text ≡ Ok game)
  given-game (Ok game) e = sym e
  given-game (Err fault) e = tt

  pub given-fault : (r : Result GameParts SourceFault) → r ≡ source_of text → IfErr r (λ fault. fault.code ≢ code.Memory → source_of text ≡ Err fault)
  given-fault (Ok game) e = tt
  given-fault (Err fault) e = λ other. sym e

  given : (r : Result GameParts SourceFault) → r ≡ source_of text → IfErr r (Names (line_count text))
  given r e = subst (λ r. IfErr r (Names (line_count text))) (sym e) (source-fault text)

  pub given-memory : (r : Result GameParts SourceFault) → r ≡ source_of text → IfErr r (λ fault. fault.code ≡ code.Memory → fault.line ≡ 0)
  given-memory (Ok game) e = tt
  given-memory (Err fault) e = λ memory. absurd ((given (Err fault) e).0 memory)

  pub given-line : (r : Result GameParts SourceFault) → r ≡ source_of text → IfErr r (λ fault. fault.line ≤ line_count text)
  given-line (Ok game) e = tt
  given-line (Err fault) e = (given (Err fault) e).1
