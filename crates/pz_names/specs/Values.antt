-- The names of a source and what they denote, or the fault of its legend.
use Rattle.std.specs.Prelude.{ℕ, List, [], ◌++◌, length, map, Option}
use Rattle.pz_base.specs.Fault.{first_fault, or_else}
use Rattle.pz_text.specs.declared.line.Line.{Line}
use Rattle.pz_base.specs.declared.fault.SourceFault.{SourceFault}
use Rattle.pz_names.specs.Objects.{object_names}
use Rattle.pz_names.specs.Legend.{line_number, line_at, misnames, definitions_of, speaks_of_unknown}
use Rattle.pz_names.specs.Meaning.{meanings_of}
use Rattle.pz_names.specs.Denotation.{values_of}
use Rattle.pz_names.specs.Cycles.{reaches_itself}
use Rattle.pz_names.specs.Kinds.{kind_in, mixes}
use Rattle.pz_names.specs.declared.name_line.NameLine.{NameLine}
use Rattle.pz_names.specs.declared.legend.Definition.{Definition}
use Rattle.pz_names.specs.declared.meaning.Meaning.{Meaning}

-- all names, in the order of first mention
abbrev pub names_of_source : List NameLine → List Definition → List (List ℕ)
names_of_source objects definitions = object_names objects ++ map (λ d. d.name) definitions

-- what the lines say about their names
abbrev pub meanings_of_source : List NameLine → List Definition → List Meaning
meanings_of_source objects definitions = meanings_of objects (names_of_source objects definitions) definitions

-- the first fault of definitions with new names: an unknown name on the right, then a name that reaches itself, then a mixture
-- of kinds
abbrev pub fault_of_definitions : List NameLine → List Definition → Option SourceFault
fault_of_definitions objects definitions =
    let names = names_of_source objects definitions in
    let meanings = meanings_of objects names definitions in
    or_else (first_fault line_at (speaks_of_unknown names) [] definitions)
    (or_else (first_fault line_at (reaches_itself (length (object_names objects)) meanings) [] definitions)
    (first_fault line_at (mixes (kind_in names (values_of meanings))) [] definitions))

-- the first fault of the lines of LEGEND
abbrev pub fault_of_legend : List NameLine → List Line → Option SourceFault
fault_of_legend objects lines =
    or_else (first_fault line_number (misnames (object_names objects)) [] lines) (fault_of_definitions objects (definitions_of lines))
