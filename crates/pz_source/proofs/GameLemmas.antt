-- The game of a source, section by section, from what the readers answered.
use Rattle.std.proofs.Common.{◌≡◌, ℕ, ◌<◌, ◌≤◌, Bool, true, false, ◌&&◌, List, [], length, get_or, refl, ap, sym, ◌∙◌, subst, arith}
use Rattle.std.specs.Prelude.{Option, Some, None, option_and_then, slice_get, Result, Ok, Err, if◌then◌else◌, codes}
use Rattle.std.specs.Option.{option_map_or}
use Rattle.std.specs.List.{All}
use Rattle.std.proofs.lemmas.List.{length-map}
use Rattle.std.proofs.lemmas.List.Elements.{All-map, All-weaker, All-get_or}
use Rattle.std.proofs.lemmas.Option.{slice_get_within, get_or_from_slice_get}
use Rattle.pz_base.specs.Fault.{unless, and_then}
use Rattle.pz_base.specs.NameSet.{number_in}
use Rattle.pz_text.specs.Section.{lines_in}
use Rattle.pz_text.specs.declared.line.Line.{Line}
use Rattle.pz_text.specs.declared.line.Section.TheVariants as section
use Rattle.pz_base.specs.declared.fault.SourceFault.{SourceFault}
use Rattle.pz_base.specs.declared.fault.Code.TheVariants as code
use Rattle.pz_names.specs.Objects.{IsNamed, objects_of}
use Rattle.pz_names.specs.Legend.{definitions_of}
use Rattle.pz_names.specs.Denotation.{values_of}
use Rattle.pz_names.specs.Values.{names_of_source, meanings_of_source, fault_of_legend}
use Rattle.pz_source.specs.Missing.{is_single, names_single, fault_of_needs}
use Rattle.pz_source.specs.Layers.{layer_lines, fault_of_layers, layers_of}
use Rattle.pz_source.specs.Rules.{rule_lines}
use Rattle.pz_source.specs.Wins.{wins_of}
use Rattle.pz_source.specs.Levels.{glyph_of, levels_of}
use Rattle.pz_source.specs.Profile.{outside_profile, options_of}
use Rattle.pz_game.specs.Game.{IsGame}
use Rattle.pz_game.specs.declared.game.GameParts.{GameParts}
use Rattle.pz_game.specs.Word.{IsWord}
use Rattle.pz_game.specs.Denotation.{IsDenoted}
use Rattle.pz_source.specs.Reading.{first_names, game_over, game_of_objects, game_of_lines}
use Rattle.pz_names.specs.declared.name_line.NameLine.{NameLine}
use Rattle.pz_game.specs.declared.denotation.Denotation.{Denotation}
use Rattle.pz_game.specs.declared.level.LevelEntry.{LevelEntry}
use Rattle.pz_game.specs.declared.rule_line.RuleLine.{RuleLine}
use Rattle.pz_game.specs.declared.win_line.WinLine.{WinLine}
use Rattle.pz_game.specs.declared.options.Options.{Options}
use Rattle.pz_source.proofs.LayerLemmas.{shallow, layered, laid}
use Rattle.pz_source.proofs.DrawnLemmas.{glyph_below, levels-below}
use Rattle.pz_source.proofs.FoundLemmas.{BothGive, both-refused}

-- the names that each game needs are there
needs : (names : List (List ℕ)) (values : List Denotation) → fault_of_needs names values ≡ None
    → (names_single names values (codes "background") ≡ true) × (names_single names values (codes "player") ≡ true)
needs names values none = by (names_single names values (codes "background")) (names_single names values (codes "player")) none
  where
    by : (a b : Bool) → (let fault : SourceFault = record { code = code.Missing; line = 0 } in if a && b then None else Some fault) ≡ None → (a ≡ true) × (b ≡ true)
    by true true h = (refl, refl)
    by true false h = cc
    by false b h = cc

-- a name that is there has a value
single-inside : (names : List (List ℕ)) (values : List Denotation) (name : List ℕ) → names_single names values name ≡ true → 0 < length values
single-inside names values name e = by (number_in names name) e
  where
    at : (k : ℕ) (o : Option Denotation) → slice_get values k ≡ o → option_map_or (λ d. is_single d.kind) o false ≡ true → 0 < length values
    at k None q h = cc
    at k (Some d) q h = let lt = slice_get_within values k d q in omega arith

    by : (o : Option ℕ) → option_map_or (λ d. is_single d.kind) (option_and_then (slice_get values) o) false ≡ true → 0 < length values
    by None h = cc
    by (Some k) h = at k (slice_get values k) refl h

-- and it has a member
single-some : (count : ℕ) (names : List (List ℕ)) (values : List Denotation) (name : List ℕ) → All (IsDenoted count) values → names_single names values name ≡ true
    → 0 < length (option_map_or (λ (d : Denotation). d.members) (option_and_then (slice_get values) (number_in names name)) [])
single-some count names values name all e = by (number_in names name) e
  where
    at : (k : ℕ) (o : Option Denotation) → slice_get values k ≡ o → option_map_or (λ d. is_single d.kind) o false ≡ true → 0 < length (option_map_or (λ (d : Denotation). d.members) o [])
    at k None q h = cc
    at k (Some d) q h =
        let here : IsDenoted count (get_or values k d) = All-get_or (IsDenoted count) values k d (slice_get_within values k d q) all in
        (subst (IsDenoted count) (get_or_from_slice_get values k d d q) here).some

    by : (o : Option ℕ) → option_map_or (λ d. is_single d.kind) (option_and_then (slice_get values) o) false ≡ true
        → 0 < length (option_map_or (λ (d : Denotation). d.members) (option_and_then (slice_get values) o) [])
    by None h = cc
    by (Some k) h = at k (slice_get values k) refl h

firsts-worded : (objects : List NameLine) → All IsNamed objects → All IsWord (first_names objects)
firsts-worded objects named =
    All-map IsWord (λ (line : NameLine). get_or line.names 0 []) objects
    (All-weaker IsNamed (λ (line : NameLine). IsWord (get_or line.names 0 [])) (λ line n. All-get_or IsWord line.names 0 [] n.0 n.1) objects named)

-- the facts of a game, where it is made
module _ (objects : List NameLine) (names : List (List ℕ)) (values : List Denotation) (few : length objects ≤ 512) (named : All IsNamed objects) (all : length values ≡ length names)
    (denoted : All (IsDenoted (length objects)) values) (needed : fault_of_needs names values ≡ None) (lines : List Line) (placed : fault_of_layers objects names values lines ≡ None)
    (drawing : List Line) (entries : List LevelEntry) (drawn : levels_of (glyph_of names values) drawing ≡ Ok entries) (rules : List RuleLine) (wins : List WinLine) (options : Options) where
  made : IsGame (record {
    objects = first_names objects;
    names = names;
    values = values;
    layers = layers_of objects names values lines;
    depth = length (layer_lines lines);
    rules = rules;
    wins = wins;
    levels = entries;
    options = options;
  })
  made =
      let count : length (first_names objects) ≡ length objects = length-map objects (λ (line : NameLine). get_or line.names 0 []) in
      let there = needs names values needed in
      record {
        few = omega arith;
        shallow = shallow objects names values lines placed;
        laid = laid objects names values lines placed ∙ sym count;
        layered = layered objects names values lines placed;
        denoted = all;
        members = subst (λ n. All (IsDenoted n) values) (sym count) denoted;
        player = single-some (length objects) names values (codes "player") denoted there.1;
        background = single-some (length objects) names values (codes "background") denoted there.0;
        drawn = levels-below (glyph_of names values) (length values) (single-inside names values (codes "player") there.1) (glyph_below names values) drawing entries drawn;
        worded = firsts-worded objects named;
      }

  pub is_game : (firsts : List (List ℕ)) (vs : List Denotation) (layers : List ℕ) (depth : ℕ)
      → firsts ≡ first_names objects → vs ≡ values → layers ≡ layers_of objects names values lines → depth ≡ length (layer_lines lines)
      → IsGame (record { objects = firsts; names = names; values = vs; layers = layers; depth = depth; rules = rules; wins = wins; levels = entries; options = options })
  is_game firsts vs layers depth a b d e = rw (a, b, d, e) made

module _ (lines : List Line) (objects : List NameLine) (names : List (List ℕ)) (values : List Denotation) (vs : List Denotation) (same : vs ≡ values)
    (needed : fault_of_needs names vs ≡ None) (ls : List Line) (layer_part : ls ≡ lines_in section.Layers lines) where
  -- the game by the parts that were read
  by_parts : List Denotation → List Line → List Line → List Line → Result GameParts SourceFault
  by_parts vals ls ws es =
      unless (fault_of_needs names vals)
      (unless (fault_of_layers objects names vals ls)
      (and_then
      (λ wins. and_then
      (λ entries. Ok (record {
        objects = first_names objects;
        names = names;
        values = vals;
        layers = layers_of objects names vals ls;
        depth = length (layer_lines ls);
        rules = rule_lines (lines_in section.Rules lines);
        wins = wins;
        levels = entries;
        options = options_of (lines_in section.Prelude lines);
      }))
      (levels_of (glyph_of names vals) es))
      (wins_of names ws)))

  whole : (ws es : List Line) → ws ≡ lines_in section.Wins lines → es ≡ lines_in section.Levels lines → game_over lines objects names values ≡ by_parts vs ls ws es
  unfolding by_parts
  whole ws es win_part level_part =
      ap (λ v. by_parts v (lines_in section.Layers lines) (lines_in section.Wins lines) (lines_in section.Levels lines)) (sym same)
      ∙ (ap (λ l. by_parts vs l (lines_in section.Wins lines) (lines_in section.Levels lines)) (sym layer_part)
      ∙ (ap (λ w. by_parts vs ls w (lines_in section.Levels lines)) (sym win_part) ∙ ap (by_parts vs ls ws) (sym level_part)))

  pub at_layers : (fault : SourceFault) → fault_of_layers objects names vs ls ≡ Some fault → game_over lines objects names values ≡ Err fault
  unfolding by_parts
  at_layers fault e = whole (lines_in section.Wins lines) (lines_in section.Levels lines) refl refl ∙ rw (needed, e) refl

  pub at_behind : (fault : SourceFault) → fault_of_layers objects names vs ls ≡ None
      → BothGive (wins_of names (lines_in section.Wins lines)) (levels_of (glyph_of names vs) (lines_in section.Levels lines)) (Err fault) → game_over lines objects names values ≡ Err fault
  unfolding by_parts
  at_behind fault a e =
      whole (lines_in section.Wins lines) (lines_in section.Levels lines) refl refl
      ∙ rw (needed, a) (both-refused (wins_of names (lines_in section.Wins lines)) (levels_of (glyph_of names vs) (lines_in section.Levels lines)) _ fault e)

  pub at_end : (ws es : List Line) (wins : List WinLine) (entries : List LevelEntry) → ws ≡ lines_in section.Wins lines → es ≡ lines_in section.Levels lines
      → fault_of_layers objects names vs ls ≡ None → wins_of names ws ≡ Ok wins → levels_of (glyph_of names vs) es ≡ Ok entries
      → game_over lines objects names values ≡ Ok (record {
        objects = first_names objects;
        names = names;
        values = vs;
        layers = layers_of objects names vs ls;
        depth = length (layer_lines ls);
        rules = rule_lines (lines_in section.Rules lines);
        wins = wins;
        levels = entries;
        options = options_of (lines_in section.Prelude lines);
      })
  unfolding by_parts
  at_end ws es wins entries win_part level_part a b e = whole ws es win_part level_part ∙ rw (needed, a, b, e) refl

  pub at_game : (ws es : List Line) (wins : List WinLine) (entries : List LevelEntry) → ws ≡ lines_in section.Wins lines → es ≡ lines_in section.Levels lines
      → fault_of_layers objects names vs ls ≡ None → wins_of names ws ≡ Ok wins → levels_of (glyph_of names vs) es ≡ Ok entries
      → (firsts : List (List ℕ)) (vals : List Denotation) (layers : List ℕ) (depth : ℕ) (rules : List RuleLine) (options : Options)
      → firsts ≡ first_names objects → vals ≡ vs → layers ≡ layers_of objects names vs ls → depth ≡ length (layer_lines ls)
      → rules ≡ rule_lines (lines_in section.Rules lines) → options ≡ options_of (lines_in section.Prelude lines)
      → game_over lines objects names values
      ≡ Ok (record { objects = firsts; names = names; values = vals; layers = layers; depth = depth; rules = rules; wins = wins; levels = entries; options = options })
  at_game ws es wins entries win_part level_part a b e firsts vals layers depth rules options p q r s t u =
      rw (p, q, r, s, t, u) (at_end ws es wins entries win_part level_part a b e)

-- behind a legend that was read
module _ (lines : List Line) (objects : List NameLine) (legend : List Line) (part : legend ≡ lines_in section.Legend lines) where
  by_legend : List Line → Result GameParts SourceFault
  by_legend ls =
      unless (fault_of_legend objects ls)
      (game_over lines objects (names_of_source objects (definitions_of ls)) (values_of (meanings_of_source objects (definitions_of ls))))

  legend_read : game_of_objects lines objects ≡ by_legend legend
  unfolding by_legend
  legend_read = ap by_legend (sym part)

  pub at_legend : (fault : SourceFault) → fault_of_legend objects legend ≡ Some fault → game_of_objects lines objects ≡ Err fault
  unfolding by_legend
  at_legend fault e = legend_read ∙ rw e refl

  pub behind_legend : (names : List (List ℕ)) (values : List Denotation) → fault_of_legend objects legend ≡ None → names ≡ names_of_source objects (definitions_of legend)
      → values ≡ values_of (meanings_of_source objects (definitions_of legend)) → game_of_objects lines objects ≡ game_over lines objects names values
  unfolding by_legend
  behind_legend names values sound named denoted = legend_read ∙ rw (sound, named, denoted) refl

-- a fault of the profile, or of the objects
pub at_profile : (lines : List Line) (fault : SourceFault) → outside_profile lines ≡ Some fault → game_of_lines lines ≡ Err fault
at_profile lines fault hit = rw hit refl

pub at_objects : (lines part : List Line) → part ≡ lines_in section.Objects lines → outside_profile lines ≡ None → (fault : SourceFault) → objects_of part ≡ Err fault → game_of_lines lines ≡ Err fault
at_objects lines part same inside fault refused = rw (inside, sym (ap objects_of same), refused) refl

-- behind the objects
pub behind_objects : (lines : List Line) (objects : List NameLine) (part : List Line) → part ≡ lines_in section.Objects lines → outside_profile lines ≡ None → objects_of part ≡ Ok objects
    → game_of_lines lines ≡ game_of_objects lines objects
behind_objects lines objects part same inside read = rw (inside, sym (ap objects_of same), read) refl
