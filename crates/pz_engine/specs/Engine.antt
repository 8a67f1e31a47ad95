-- From the bytes of a file of sessions to the lines of their recording, with neither streams nor threads.
use Rattle.std.specs.Prelude.{◌≡◌, ℕ, ◌+◌, List, [], ◌∷◌, ◌++◌, take, if◌then◌else◌, Option, Some, None, Ok}
use Rattle.std.specs.List.{list_any}
use Rattle.pz_entries.specs.declared.entry.Entry.{Entry}
use Rattle.pz_record.specs.declared.order.Order.{Order}
use Rattle.pz_case.specs.declared.item.Item.{Item}
use Rattle.pz_case.specs.declared.recording.Record.{Record}
use Rattle.pz_lines.specs.Lines.{frame_count, is_from, item_line}
use Rattle.pz_engine.specs.Sessions.{all_passed, is_pass, sessions_in, shown_of}
use Rattle.pz_engine.specs.declared.engine.Played.{Played}
use Rattle.pz_engine.specs.declared.engine.PlayedCase.{PlayedCase}

-- a text of what the sessions of a file show, and whether every session passed
pub record IsPlayed (text : List Record → List ℕ) (order : Order) (bytes : List ℕ) (played : Played) : Type 0 where
  pub entries : List Entry
  pub read : sessions_in bytes ≡ Ok entries
  pub whole : played.lines.items ≡ text (shown_of order entries)
  pub told : played.passed ≡ all_passed (shown_of order entries)

-- the line of an item of a session, if it is shown from an input on
abbrev pub line_from : ℕ → ℕ → List ℕ → ℕ → Item → List ℕ
line_from from session name frames item = if is_from from item then item_line session name frames item else []

-- the lines of items of a session, before which so many frames were shown; the close tells how many these are by then
abbrev pub lines_on : ℕ → List ℕ → ℕ → List Item → List ℕ
lines_on session name frames [] = []
lines_on session name frames (item ∷ later) = item_line session name frames item ++ lines_on session name (frames + frame_count (item ∷ [])) later

-- the piece of a session that these items make
abbrev pub piece_of : ℕ → List ℕ → ℕ → List Item → PlayedCase
piece_of session name frames items = record { lines = lines_on session name frames items; passed = list_any is_pass items }

-- the next piece of a session, which has the first of the items that are left, at most so many; there is none if none is left
abbrev pub next_piece : ℕ → List ℕ → ℕ → ℕ → List Item → Option PlayedCase
next_piece session name frames most [] = None
next_piece session name frames most (item ∷ items) = Some (piece_of session name frames (take most (item ∷ items)))
