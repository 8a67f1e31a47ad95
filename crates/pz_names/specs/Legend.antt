-- LEGEND: what each of its lines defines, and which of them are refused.
use Rattle.std.specs.Prelude.{ℕ, ◌+◌, ◌==◌, if◌then◌else◌, nat_le, not, Bool, List, [], ◌∷◌, ◌++◌, length, map, take, drop, Option, Some, None, option_map, option_and_then, position, codes}
use Rattle.std.specs.List.{list_any, filter_map}
use Rattle.std.specs.Str.{bytes_eq}
use Rattle.pz_base.specs.NameSet.{is_name_of}
use Rattle.pz_text.specs.Words.{names_of}
use Rattle.pz_text.specs.declared.line.Line.{Line}
use Rattle.pz_base.specs.declared.fault.Code.{Code}
use Rattle.pz_base.specs.declared.fault.Code.TheVariants as code
use Rattle.pz_names.specs.Objects.{is_blank}
use Rattle.pz_names.specs.declared.objects.TheConstants.{MOST_NAMES}
use Rattle.pz_names.specs.declared.legend.Said.{Said}
use Rattle.pz_names.specs.declared.legend.Said.TheVariants.{Same, AllOf, AnyOf}
use Rattle.pz_names.specs.declared.legend.Definition.{Definition}

-- a line cut at its first `=` that isn't its first character
abbrev pub sides : List ℕ → Option (List ℕ × List ℕ)
sides [] = None
sides (c ∷ cs) = option_map (λ at. (take (at + 1) (c ∷ cs), drop (at + 1) cs)) (position (λ d. d == 61) cs)

-- legend.joints: the first, third, fifth name and so on, after those in `before`, if the joint stands between each two of them
abbrev pub joint_names : List ℕ → List (List ℕ) → List (List ℕ) → Option (List (List ℕ))
joint_names joint before [] = None
joint_names joint before (part ∷ []) = Some (before ++ part ∷ [])
joint_names joint before (part ∷ other ∷ more) = if bytes_eq other joint then joint_names joint (before ++ part ∷ []) more else None

-- legend.kinds: what the right side says: a name alone is a synonym, parts joined by `and` are an aggregate, and parts joined by `or` a
-- property
abbrev pub said_by : List (List ℕ) → Option Said
said_by [] = None
said_by (only ∷ []) = Some (Same only)
said_by (part ∷ joint ∷ more) =
    if bytes_eq joint (codes "and") then option_map (λ parts. AllOf parts) (joint_names (codes "and") [] (part ∷ joint ∷ more))
    else option_map (λ parts. AnyOf parts) (joint_names (codes "or") [] (part ∷ joint ∷ more))

-- the definition that both sides make, if the left side is one name
abbrev pub defined_by : ℕ → List (List ℕ) → List (List ℕ) → Option Definition
defined_by number [] right = None
defined_by number (name ∷ []) right = option_map (λ said. record { number = number; name = name; said = said }) (said_by right)
defined_by number (name ∷ other ∷ more) right = None

-- legend.lines: the definition on a line, if the line has the form of one
abbrev pub definition_of : Line → Option Definition
definition_of line = option_and_then (λ both. defined_by line.number (names_of both.0) (names_of both.1)) (sides line.text)

abbrev pub definitions_of : List Line → List Definition
definitions_of lines = filter_map definition_of lines

abbrev pub line_number : Line → ℕ
line_number line = line.number

abbrev pub line_at : Definition → ℕ
line_at definition = definition.number

-- the names that the lines define
abbrev pub defined_names : List Line → List (List ℕ)
defined_names lines = map (λ d. d.name) (definitions_of lines)

-- the names on the right of a line
abbrev pub names_in : Said → List (List ℕ)
names_in (Same name) = name ∷ []
names_in (AllOf parts) = parts
names_in (AnyOf parts) = parts

-- there are 1,024 names already, and no more are allowed
abbrev pub is_full : List (List ℕ) → Bool
is_full names = nat_le MOST_NAMES (length names)

-- the fault of a line that is no definition, defines a name that is there already, or defines one name too many
abbrev pub misnames_by : List (List ℕ) → Option Definition → Option Code
misnames_by there None = Some code.BadLegend
misnames_by there (Some definition) =
    if is_name_of there definition.name then Some code.Duplicate
    else (if is_full there then Some code.TooLarge else None)

-- checks.legend: the same of any line: blank lines are skipped, and the names come from OBJECTS and from the lines above
abbrev pub misnames : List (List ℕ) → List Line → Line → Option Code
misnames objects before line = if is_blank line then None else misnames_by (objects ++ defined_names before) (definition_of line)

-- the fault of a line with an unknown name on its right
abbrev pub speaks_of_unknown : List (List ℕ) → List Definition → Definition → Option Code
speaks_of_unknown names before definition =
    if list_any (λ part. not (is_name_of names part)) (names_in definition.said) then Some code.Unknown else None
