-- The game of a text, or its first fault: that of the first check that names a line, at the first such line.
use Rattle.std.specs.Prelude.{ℕ, ◌==◌, List, [], length, map, get_or, Result, Ok}
use Rattle.std.specs.List.{slice_split}
use Rattle.std.specs.Str.{chars}
use Rattle.pz_base.specs.Fault.{unless, and_then}
use Rattle.pz_text.specs.Check.{lines_of}
use Rattle.pz_text.specs.Section.{lines_in}
use Rattle.pz_text.specs.declared.line.Line.{Line}
use Rattle.pz_text.specs.declared.line.Section.TheVariants as section
use Rattle.pz_base.specs.declared.fault.SourceFault.{SourceFault}
use Rattle.pz_source.specs.Profile.{outside_profile, options_of}
use Rattle.pz_names.specs.Objects.{objects_of}
use Rattle.pz_names.specs.Legend.{definitions_of}
use Rattle.pz_names.specs.Denotation.{values_of}
use Rattle.pz_names.specs.Values.{names_of_source, meanings_of_source, fault_of_legend}
use Rattle.pz_source.specs.Missing.{fault_of_needs}
use Rattle.pz_source.specs.Layers.{layer_lines, fault_of_layers, layers_of}
use Rattle.pz_source.specs.Rules.{rule_lines}
use Rattle.pz_source.specs.Wins.{wins_of}
use Rattle.pz_source.specs.Levels.{glyph_of, levels_of}
use Rattle.pz_game.specs.declared.game.GameParts.{GameParts}
use Rattle.pz_source.specs.declared.reading.Sections.{Sections}
use Rattle.pz_names.specs.declared.name_line.NameLine.{NameLine}
use Rattle.pz_game.specs.declared.denotation.Denotation.{Denotation}

-- how many lines a text has: line feeds separate them
abbrev pub line_count : List ℕ → ℕ
line_count text = length (slice_split (λ c. c == 10) (chars text))

-- the first name of each object's line
abbrev pub first_names : List NameLine → List (List ℕ)
first_names objects = map (λ line. get_or line.names 0 []) objects

-- the game of these names, of what they denote, and of what the sections after the legend give
abbrev pub game_with : List (List ℕ) → List Denotation → Sections → GameParts
game_with names values sections = record {
  objects = sections.objects;
  names = names;
  values = values;
  layers = sections.layers;
  depth = sections.depth;
  rules = sections.rules;
  wins = sections.wins;
  levels = sections.levels;
  options = sections.options;
}

-- the game with these objects and names; the order of the checks is: needed names, layers, win lines, levels
abbrev pub game_over : List Line → List NameLine → List (List ℕ) → List Denotation → Result GameParts SourceFault
game_over lines objects names values =
    unless (fault_of_needs names values)
    (unless (fault_of_layers objects names values (lines_in section.Layers lines))
    (and_then
    (λ wins. and_then
    (λ entries. Ok (record {
      objects = first_names objects;
      names = names;
      values = values;
      layers = layers_of objects names values (lines_in section.Layers lines);
      depth = length (layer_lines (lines_in section.Layers lines));
      rules = rule_lines (lines_in section.Rules lines);
      wins = wins;
      levels = entries;
      options = options_of (lines_in section.Prelude lines);
    }))
    (levels_of (glyph_of names values) (lines_in section.Levels lines)))
    (wins_of names (lines_in section.Wins lines))))

-- the game with these objects: checks the legend, then what follows
abbrev pub game_of_objects : List Line → List NameLine → Result GameParts SourceFault
game_of_objects lines objects =
    let definitions = definitions_of (lines_in section.Legend lines) in
    unless (fault_of_legend objects (lines_in section.Legend lines))
    (game_over lines objects (names_of_source objects definitions) (values_of (meanings_of_source objects definitions)))

-- the game of lines whose headings are in order: checks the profile, then the objects, then what follows
abbrev pub game_of_lines : List Line → Result GameParts SourceFault
game_of_lines lines = unless (outside_profile lines) (and_then (game_of_objects lines) (objects_of (lines_in section.Objects lines)))

-- checks.order: the game of a text: checks its length and its headings, then what follows
unfoldable pub source_of : List ℕ → Result GameParts SourceFault
source_of text = and_then game_of_lines (lines_of text)
