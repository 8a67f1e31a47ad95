-- The checks of a text: its length, and its headings.
use Rattle.std.specs.Prelude.{ℕ, Bool, ◌&&◌, if◌then◌else◌, nat_lt, nat_le, List, [], length, Option, Some, None, Result, Ok}
use Rattle.std.specs.List.{list_any}
use Rattle.std.specs.Str.{chars}
use Rattle.pz_base.specs.Fault.{first_fault, unless}
use Rattle.pz_text.specs.Section.{place_of, is_heading_of}
use Rattle.pz_text.specs.Cutting.{lines_of_text}
use Rattle.pz_text.specs.declared.check.TheConstants.{MOST_BYTES}
use Rattle.pz_text.specs.declared.line.Section.{Section}
use Rattle.pz_text.specs.declared.line.Section.TheVariants.{Objects, Legend, Layers, Levels}
use Rattle.pz_text.specs.declared.line.Line.{Line}
use Rattle.pz_base.specs.declared.fault.Code.{Code}
use Rattle.pz_base.specs.declared.fault.Code.TheVariants as code
use Rattle.pz_base.specs.declared.fault.SourceFault.{SourceFault}

-- checks.length: the fault of a text with more bytes than a source may have
abbrev pub too_long : List ℕ → Option SourceFault
too_long bytes = if nat_lt MOST_BYTES (length bytes) then Some (record { code = code.TooLong; line = 0 }) else None

abbrev pub number_of : Line → ℕ
number_of line = line.number

-- the line is the heading of the section at this place of the order, or of a later one
abbrev pub reaches_place : ℕ → Line → Bool
reaches_place place line = line.is_heading && nat_le place (place_of line.section)

-- sections.order: a heading is at fault if one above it has the same place in the order, or a later one
abbrev pub misplaces : List Line → Line → Option Code
misplaces before line =
    if line.is_heading && list_any (reaches_place (place_of line.section)) before then Some code.Section else None

-- the fault of the first heading that is out of order, or repeated
abbrev pub misplaced_heading : List Line → Option SourceFault
misplaced_heading lines = first_fault number_of misplaces [] lines

abbrev pub has_section : Section → List Line → Bool
has_section section lines = list_any (is_heading_of section) lines

-- checks.sections: the fault of a text without a section that every source must have
abbrev pub missing_section : List Line → Option SourceFault
missing_section lines =
    if has_section Objects lines && has_section Legend lines && has_section Layers lines && has_section Levels lines then None
    else Some (record { code = code.Section; line = 0 })

-- the lines of a text, or the first fault of its length and its headings
abbrev pub lines_of : List ℕ → Result (List Line) SourceFault
lines_of bytes =
    unless (too_long bytes)
    (unless (misplaced_heading (lines_of_text (chars bytes)))
    (unless (missing_section (lines_of_text (chars bytes)))
    (Ok (lines_of_text (chars bytes)))))
