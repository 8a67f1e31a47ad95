-- The text of a recording: a line for each item, compact JSON with its keys in the order of their bytes.
use Rattle.std.specs.Prelude.{ℕ, Bool, true, false, suc, nat_le, List, [], ◌∷◌, ◌++◌, filter, flat_map, length, Option, Some, None, codes, decimal}
use Rattle.json.specs.Print.{quoted}
use Rattle.pz_case.specs.declared.item.FrameKind.{FrameKind}
use Rattle.pz_case.specs.declared.item.Item.{Item}
use Rattle.pz_case.specs.declared.item.Item.TheVariants as item
use Rattle.pz_case.specs.declared.item.Verdict.{Verdict}
use Rattle.pz_case.specs.declared.recording.Record.{Record}
use Rattle.pz_lines.specs.Naming.{kind_name, close_name, cause_name}

abbrev pub frame_parts : ℕ → ℕ → ℕ → List ℕ → List ℕ → List ℕ
frame_parts session number at kind level =
    codes "{\"at\":" ++ decimal at ++ codes ",\"frame\":" ++ decimal number ++ codes ",\"kind\":" ++ quoted kind
    ++ codes ",\"level\":" ++ quoted level ++ codes ",\"session\":" ++ decimal session ++ codes "}\n"

-- a frame: how many inputs were taken when it was shown, its number, why it was shown, the level
unfoldable pub frame_line : ℕ → ℕ → FrameKind → ℕ → List ℕ → List ℕ
frame_line session number kind at level_text = frame_parts session number at (kind_name kind) level_text

-- program.causes
abbrev pub with_cause : Option (List ℕ) → List ℕ
with_cause None = []
with_cause (Some cause) = codes "\"cause\":" ++ quoted cause ++ codes ","

unfoldable pub verdict_line : ℕ → List ℕ → ℕ → Option (List ℕ) → List ℕ → List ℕ
verdict_line session name frames cause close =
    codes "{" ++ with_cause cause ++ codes "\"close\":" ++ quoted close ++ codes ",\"frames\":" ++ decimal frames
    ++ codes ",\"name\":" ++ quoted name ++ codes ",\"session\":" ++ decimal session ++ codes "}\n"

-- a close: its cause if it has one, how many frames were shown, the session's name
unfoldable pub close_line : ℕ → List ℕ → ℕ → Verdict → List ℕ
close_line session name frames verdict = verdict_line session name frames (cause_name verdict) (close_name verdict)

abbrev pub is_frame : Item → Bool
is_frame (item.Frame number kind at level_text) = true
is_frame (item.Close verdict) = false

abbrev pub frame_count : List Item → ℕ
frame_count items = length (filter is_frame items)

abbrev pub item_line : ℕ → List ℕ → ℕ → Item → List ℕ
item_line session name frames (item.Frame number kind at level_text) = frame_line session number kind at level_text
item_line session name frames (item.Close verdict) = close_line session name frames verdict

-- the lines of what a session showed
abbrev pub lines_of : ℕ → Record → List ℕ
lines_of session shown = flat_map (item_line session shown.name (frame_count shown.items)) shown.items

-- whether an item is shown from an input on: the close is, and so is a frame that is shown after so many inputs or more
abbrev pub is_from : ℕ → Item → Bool
is_from from (item.Frame number kind at level_text) = nat_le from at
is_from from (item.Close verdict) = true

-- the lines of what a session showed, only those of the items from an input on
abbrev pub lines_from : ℕ → ℕ → Record → List ℕ
lines_from from session shown = flat_map (item_line session shown.name (frame_count shown.items)) (filter (is_from from) shown.items)

-- the lines of the sessions, which are numbered from this number on
abbrev pub recording_lines : (ℕ → Record → List ℕ) → ℕ → List Record → List ℕ
recording_lines lines session [] = []
recording_lines lines session (shown ∷ later) = lines session shown ++ recording_lines lines (suc session) later

-- program.lines
unfoldable pub text_of : List Record → List ℕ
text_of recording = recording_lines lines_of 0 recording

-- the text of a recording, only the lines of the items from an input on
unfoldable pub text_from : ℕ → List Record → List ℕ
text_from from recording = recording_lines (lines_from from) 0 recording
