-- The description of a source: its first fault or none, its sections line by line, and the program of its rules. A source that is refused
-- has its sections too: without a program where its rules alone are refused, and else without what its lines mean. Its outline is what is
-- told of it where no rule is expanded.
use Rattle.std.specs.Prelude.{ℕ, if◌then◌else◌, is_some, List, [], ◌∷◌, ◌++◌, Result, Ok, Err, codes}
use Rattle.std.specs.List.{flat_map}
use Rattle.std.specs.Str.{chars}
use Rattle.json.specs.Print.{print}
use Rattle.json.specs.Token.{Token, key, null}
use Rattle.pz_base.specs.declared.fault.SourceFault.{SourceFault}
use Rattle.pz_game.specs.declared.game.GameParts.{GameParts}
use Rattle.pz_lines.specs.Naming.{code_name}
use Rattle.pz_program.specs.declared.instance.Program.{Program}
use Rattle.pz_rules.specs.Drafts.{program_of}
use Rattle.pz_source.specs.Layers.{layer_lines}
use Rattle.pz_source.specs.Reading.{source_of}
use Rattle.pz_text.specs.Check.{too_long}
use Rattle.pz_text.specs.Cutting.{lines_of_text}
use Rattle.pz_text.specs.Section.{lines_in}
use Rattle.pz_text.specs.declared.line.Line.{Line}
use Rattle.pz_text.specs.declared.line.Section.TheVariants as section
use Rattle.pz_describe.specs.declared.reading.Reading.{Reading}
use Rattle.pz_describe.specs.declared.reading.Reading.TheVariants.{Refused, Unexpanded, Unruled, Whole}
use Rattle.pz_describe.specs.Values.{line_member, array, name_value, object}
use Rattle.pz_describe.specs.Sections.{layer_tokens, legend_tokens, levels_array, line_tokens, objects_array, prelude_tokens, rule_tokens, win_tokens}
use Rattle.pz_describe.specs.Program.{program_tokens}

abbrev pub fault_tokens : SourceFault → List Token
fault_tokens fault = object (key (codes "code") ∷ name_value (code_name fault.code) ++ line_member fault.line)

-- what is read of a game, whose rules give this program or this fault
abbrev pub reading_with_rules : GameParts → Result Program SourceFault → Reading
reading_with_rules game (Ok program) = Whole game program
reading_with_rules game (Err fault) = Unruled game fault

abbrev pub reading_in : Result GameParts SourceFault → Reading
reading_in (Ok game) = reading_with_rules game (program_of game)
reading_in (Err fault) = Refused fault

-- what is read of a source: its game and its program, or as much of them as there is before its first fault
abbrev pub reading_of : List ℕ → Reading
reading_of source = reading_in (source_of source)

-- what is read of a source whose rules are left as they are: its game, or its first fault before any that is found as rules are expanded
abbrev pub unexpanded_in : Result GameParts SourceFault → Reading
unexpanded_in (Ok game) = Unexpanded game
unexpanded_in (Err fault) = Refused fault

abbrev pub unexpanded_reading_of : List ℕ → Reading
unexpanded_reading_of source = unexpanded_in (source_of source)

abbrev pub fault_in : Reading → List Token
fault_in (Refused fault) = fault_tokens fault
fault_in (Unexpanded game) = null ∷ []
fault_in (Unruled game fault) = fault_tokens fault
fault_in (Whole game program) = null ∷ []

abbrev pub rules_in : Reading → List Token
rules_in (Refused fault) = null ∷ []
rules_in (Unexpanded game) = null ∷ []
rules_in (Unruled game fault) = null ∷ []
rules_in (Whole game program) = program_tokens game.rules program

-- what is told of lines of which this was read: the members up to the levels, and those from the lines on
abbrev pub first_members : List Line → Reading → List Token
first_members lines read =
    key (codes "fault") ∷ fault_in read
    ++ (key (codes "layers") ∷ array (flat_map layer_tokens (layer_lines (lines_in section.Layers lines)))
    ++ (key (codes "legend") ∷ array (flat_map (legend_tokens read) (lines_in section.Legend lines))
    ++ key (codes "levels") ∷ levels_array (lines_in section.Levels lines)))

abbrev pub last_members : List Line → Reading → List Token
last_members lines read =
    key (codes "lines") ∷ array (flat_map line_tokens lines)
    ++ (key (codes "objects") ∷ objects_array read (lines_in section.Objects lines)
    ++ (key (codes "prelude") ∷ array (flat_map prelude_tokens (lines_in section.Prelude lines))
    ++ (key (codes "program") ∷ rules_in read
    ++ (key (codes "rules") ∷ array (flat_map rule_tokens (lines_in section.Rules lines))
    ++ key (codes "wins") ∷ array (flat_map win_tokens (lines_in section.Wins lines))))))

abbrev pub source_tokens : List Line → Reading → List Token
source_tokens lines read = object (first_members lines read ++ last_members lines read)

-- the lines of a source; of one that is too long none are told
abbrev pub lines_of : List ℕ → List Line
lines_of source = if is_some (too_long source) then [] else lines_of_text (chars source)

unfoldable pub tokens_of : List ℕ → List Token
tokens_of source = source_tokens (lines_of source) (reading_of source)

-- the text of the description: JSON without spaces, each object's keys in the order of their bytes
abbrev pub description_of : List ℕ → List ℕ
description_of source = print (tokens_of source)

-- the text of the outline: the description without the program, and without a fault that is found as rules are expanded
unfoldable pub outline_tokens_of : List ℕ → List Token
outline_tokens_of source = source_tokens (lines_of source) (unexpanded_reading_of source)

abbrev pub outline_of : List ℕ → List ℕ
outline_of source = print (outline_tokens_of source)
