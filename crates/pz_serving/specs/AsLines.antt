-- The pieces in which the program's sessions are told: each has the lines of the next items of its session, at most so many.
use Rattle.std.specs.Prelude.{◌≡◌, ℕ, ◌+◌, zero, suc, Bool, List, [], ◌∷◌, ◌++◌, map, length, take, drop, Result, Ok, Err}
use Rattle.std.specs.List.{concat, list_all, list_any}
use Rattle.pz_case.specs.declared.case.Case.{Case}
use Rattle.pz_case.specs.declared.item.Item.{Item}
use Rattle.pz_case.specs.declared.recording.Record.{Record}
use Rattle.pz_lines.specs.Lines.{frame_count}
use Rattle.pz_lines.specs.Writing.{Writes, EndsFor, HasWritten}
use Rattle.pz_console.specs.declared.failure.Failure.{Failure}
use Rattle.pz_console.specs.declared.failure.Failure.TheVariants as failure
use Rattle.pz_engine.specs.Engine.{piece_of}
use Rattle.pz_engine.specs.declared.engine.PlayedCase.{PlayedCase}
use Rattle.pz_replay.specs.Telling.{told}
use Rattle.pz_session.specs.Recording.{recording}
use Rattle.pz_serving.specs.declared.as_lines.TheConstants.{PIECE}

-- items in groups of this size, of which the last may have fewer; there are at most so many groups
abbrev pub grouped : ℕ → ℕ → List Item → List (List Item)
grouped size most [] = []
grouped size zero (item ∷ items) = []
grouped size (suc most) (item ∷ items) = take size (item ∷ items) ∷ grouped size most (drop size (item ∷ items))

-- the piece of each group of items, before which so many frames of the session were shown
abbrev pub pieces_from : ℕ → List ℕ → ℕ → List (List Item) → List PlayedCase
pieces_from number name frames [] = []
pieces_from number name frames (items ∷ later) = piece_of number name frames items ∷ pieces_from number name (frames + frame_count items) later

-- the pieces that are still to come of the session of a number and a name, if these items are
abbrev pub pieces_left : ℕ → List ℕ → ℕ → List Item → List PlayedCase
pieces_left number name frames items = pieces_from number name frames (grouped PIECE (length items) items)

-- the pieces of the session of this number
abbrev pub pieces_of : ℕ → Record → List PlayedCase
pieces_of number shown = pieces_left number shown.name 0 shown.items

-- the pieces of each session of the job
abbrev pub sessions_of : List Case → List (List PlayedCase)
sessions_of job = told pieces_of (recording job)

-- the pieces of all sessions, one after another
abbrev pub pieces_in : List (List PlayedCase) → List PlayedCase
pieces_in [] = []
pieces_in (pieces ∷ later) = pieces ++ pieces_in later

abbrev pub lines_of : PlayedCase → List ℕ
lines_of piece = piece.lines

abbrev pub passed_of : PlayedCase → Bool
passed_of piece = piece.passed

-- the lines that sessions are told in
abbrev pub text_in : List (List PlayedCase) → List ℕ
text_in sessions = concat (map lines_of (pieces_in sessions))

-- whether these lines tell that all sessions passed
abbrev pub all_told : List (List PlayedCase) → Bool
all_told sessions = list_all (list_any passed_of) sessions

-- what is left in the output if the answers of a replay may be these: all lines of one of them, as many first bytes as a fault of
-- writing tells, or nothing, if memory was refused. Nothing else ends it
abbrev pub HandsOn : (List (List PlayedCase) → Type 0) → Writes → Writes → Result Bool Failure → Type 0
HandsOn MayAnswer old new (Ok passed) = (answer : List (List PlayedCase)) × MayAnswer answer × (passed ≡ all_told answer) × HasWritten (text_in answer) old new
HandsOn MayAnswer old new (Err (failure.WriteFault cut)) = (answer : List (List PlayedCase)) × MayAnswer answer × EndsFor cut (text_in answer) old new
HandsOn MayAnswer old new (Err failure.Memory) = new ≡ old
HandsOn MayAnswer old new (Err other) = ⊥
