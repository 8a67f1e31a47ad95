-- Worked cases of sessions: undo and restart, what commands make of a step, the order of the items, and the close.
use Rattle.pz_session.proofs.Common.{Link, ◌≡◌, ℕ, suc, List, [], ◌∷◌, length, Option, Some, None, Bool, true, false, Ok, Err, refl, codes, map, nat_lt, ◌==◌, if◌then◌else◌, GameParts, Commands, either, Program, Grid, Outcome, blocks_run, rules_run, step_of, has_won, FrameKind, Frame, level_from, PlanState, State, frame_of, start_link, restart_link, won_link, kept_link, reached_link, effect, press_link, undo_link, first_link, with_past, played_items, items_of_plan, Links, closing, play_from, frames_as_items, items_from, is_idle, Denotation, Object, Up, Right, LevelEntry, Message, Level, Piece, Press, Undo, Restart, Tick, Rows, equals_recorded, text_of_level, NoLevel, Passed, Differs, Stopped, Refused}
use Rattle.std.specs.Fmt.{digits}
use Rattle.pz_program.specs.Commands as command
use Rattle.pz_record.specs.CellNames.{with_name, same_set}
use Rattle.pz_level_text.specs.LevelNames.{standing_names}
use Rattle.pz_json_text.specs.CellTexts.{with_cell, piece}
use Rattle.pz_case.specs.declared.item.FrameKind.TheVariants as kind
use Rattle.pz_case.specs.declared.item.Item.TheVariants as item
use Rattle.pz_case.specs.declared.item.Stop.TheVariants as stop

-- the objects 0 background, alone on its layer, and 1 player and 2 crate on another
abbrev pub object : ℕ → Denotation
object k = record { kind = Object; members = k ∷ []; number = k }

abbrev game_with : Bool → List LevelEntry → GameParts
game_with runs_at_start entries = record {
  objects = codes "background" ∷ codes "player" ∷ codes "crate" ∷ [];
  names = codes "background" ∷ codes "player" ∷ codes "crate" ∷ [];
  values = object 0 ∷ object 1 ∷ object 2 ∷ [];
  layers = 0 ∷ 1 ∷ 1 ∷ [];
  depth = 2;
  rules = [];
  wins = [];
  levels = entries;
  options = record { run_rules_on_level_start = runs_at_start; require_player_movement = false };
}

-- a level of one row: the player and a bare cell
abbrev entry : LevelEntry
entry = Level (record { width = 2; height = 1; cells = 1 ∷ 0 ∷ [] })

abbrev game : GameParts
game = game_with false (entry ∷ Message ∷ [])

abbrev pub no_rules : Program
no_rules = record { early = []; late = [] }

abbrev strip : List (Option Piece) → Grid
strip pieces = record {
  width = length pieces;
  height = 1;
  depth = 2;
  layers = 0 ∷ 1 ∷ 1 ∷ [];
  cells = map (λ here. Some (record { object = 0; heading = None }) ∷ here ∷ []) pieces;
}

abbrev player : Option Piece
player = Some (record { object = 1; heading = None })

-- the player on the left, and on the right
abbrev here : Grid
here = strip (player ∷ None ∷ [])

abbrev there : Grid
there = strip (None ∷ player ∷ [])

-- a session with this level, this target and this past
abbrev session_of : GameParts → Grid → Grid → List Grid → State
session_of game level target past = record {
  game = game;
  program = no_rules;
  order = Rows;
  recorded = [];
  entry = 0;
  level = level;
  target = target;
  past = past;
  before = None;
  is_over = false;
}

abbrev session : Grid → Grid → List Grid → State
session = session_of game

abbrev shows : FrameKind → Grid → Frame
shows kind level = record { kind = kind; level_text = text_of_level game Rows level }

-- a link that shows one frame, and what a step to a level makes of a press
abbrev links : FrameKind → Grid → State → Bool → Link State
links kind level after goes_on = record { shown = shows kind level ∷ []; after = after; goes_on = goes_on }

abbrev moves : State → Grid → Commands → Bool → Link State
moves state level commands changed = effect kind.Move state (record { level = level; commands = commands; changed = changed })

-- undo
undoes :
    -- with no past an undo shows the level as it is
    (undo_link (session here there []) ≡ links kind.Undo here (session here there []) false)
    -- the last of the past is taken, and the target stays
    × (undo_link (session here here (there ∷ here ∷ [])) ≡ links kind.Undo there (session there here (here ∷ [])) false)
    -- the level before an input is put on the past if the level differs, and only then
    × (with_past (record (session there here []) { before = Some here }) ≡ session there here (here ∷ []))
    × (with_past (record (session here here (there ∷ [])) { before = Some here }) ≡ session here here (there ∷ []))
unfolding undo_link frame_of with_past
undoes = (refl, refl, refl, refl)

-- a restart makes the level the target, and can be undone: the level before it is kept
restart_is_kept : first_link Restart (session here there []) ≡ Ok (links kind.Restart there (record (session there there []) { before = Some here }) false)
unfolding first_link restart_link frame_of
restart_is_kept = refl

ticks_at_start :
    -- with `run_rules_on_level_start` a tick follows a restart, and none an undo
    (restart_link (session_of (game_with true (entry ∷ [])) here there []) ≡ links kind.Restart there (session_of (game_with true (entry ∷ [])) there there []) true)
    × (undo_link (session_of (game_with true (entry ∷ [])) here here (there ∷ []))
    ≡ links kind.Undo there (session_of (game_with true (entry ∷ [])) there here []) false)
unfolding restart_link frame_of text_of_level undo_link
ticks_at_start = (refl, refl)

-- what commands make of a step
makes :
    -- cancel goes before restart: the level stays, and the frame is that of the step
    (moves (session here there []) here (either command.restart command.cancel) false ≡ links kind.Move here (session here there []) false)
    -- restart goes before win, and is shown in place of the step
    × (moves (session here here []) there (either command.win command.restart) true ≡ links kind.Restart here (session here here []) false)
    -- checkpoint and again of one step both count
    × (moves (session here here []) there (either command.again command.checkpoint) true ≡ links kind.Move there (session there there []) true)
    -- again without a change asks for no tick
    × (moves (session here there []) here command.again false ≡ links kind.Move here (session here there []) false)
    -- only a message comes after the won level: play is over, and the level stays
    × (moves (session here here []) there command.win true ≡ links kind.Move there (record (session there here []) { is_over = true }) false)
unfolding effect frame_of restart_link reached_link kept_link has_won won_link level_from
makes = (refl, refl, refl, refl, refl)

-- after that even an undo only shows the won level
over_means_over : first_link Undo (record (session there here (here ∷ [])) { is_over = true })
    ≡ Ok (links kind.Over there (record (session there here (here ∷ [])) { is_over = true }) false)
unfolding first_link frame_of
over_means_over = refl

-- a win shows the step and then the next level, which comes after a message; it is the target, and the past is empty
next_level : moves (session_of (game_with false (entry ∷ Message ∷ entry ∷ [])) there there (here ∷ [])) there command.win false
    ≡ record {
      shown = shows kind.Move there ∷ shows kind.Load here ∷ [];
      after = record (session_of (game_with false (entry ∷ Message ∷ entry ∷ [])) here here []) { entry = 2 };
      goes_on = false;
    }
unfolding effect reached_link won_link has_won level_from frame_of text_of_level
next_level = refl

-- which ticks are idle
abbrev tick_with : Bool → Commands → Outcome Grid
tick_with changed commands = record { level = here; commands = commands; changed = changed }

idle_ticks :
    -- a tick that changes nothing is idle, though it gives checkpoint or again; restart or win make it count, and cancel doesn't
    (map (λ c. is_idle (tick_with false c)) (command.checkpoint ∷ command.again ∷ command.restart ∷ command.win ∷ command.cancel ∷ []) ≡ true ∷ true ∷ false ∷ false ∷ true ∷ [])
    × (is_idle (tick_with false (either command.cancel command.win)) ≡ true)
idle_ticks = (refl, refl)

-- the order of the items
abbrev shown : Frame
shown = record { kind = kind.Move; level_text = [] }

-- each input shows a frame and is counted, the third one is a stop; the session passes after two
abbrev counting : Links ℕ
counting = record {
  begun = λ input n. if n == 2 then Err stop.LoopLimit else Ok (record { shown = shown ∷ []; after = suc n; goes_on = false });
  ticked = λ n. Err stop.MatchLimit;
  settled = λ n. n;
  verdict = λ n. if n == 2 then Passed else Differs;
}

items_in_order :
    -- frames are numbered from 0, each with the number of inputs taken, and the close follows
    (items_from 0 (play_from counting 0 (Undo ∷ Restart ∷ []) 0) ≡ item.Frame 0 shown.kind 1 shown.level_text ∷ item.Frame 1 shown.kind 2 shown.level_text ∷ item.Close Passed ∷ [])
    -- at a stop the frames so far stand, and no later input is played
    × (items_from 0 (play_from counting 0 (Undo ∷ Undo ∷ Undo ∷ Undo ∷ []) 0) ≡ item.Frame 0 shown.kind 1 shown.level_text ∷ item.Frame 1 shown.kind 2 shown.level_text ∷ item.Close (Stopped stop.LoopLimit) ∷ [])
    × (items_from 3 (play_from counting 7 [] 0) ≡ item.Close Differs ∷ [])
unfolding play_from items_from frames_as_items
items_in_order = (refl, refl, refl)

-- an input's first link asks for a tick, and so does each tick before the 500th
abbrev ticking : Links ℕ
ticking = record {
  begun = λ input n. Ok (record { shown = []; after = 0; goes_on = true });
  ticked = λ n. Ok (record { shown = []; after = suc n; goes_on = nat_lt (suc n) 500 });
  settled = λ n. n;
  verdict = λ n. if n == 500 then Passed else Differs;
}

counts_ticks :
    -- 500 ticks may follow a press; a tick input is itself one of the 500
    (play_from ticking 0 (Press Up ∷ []) 0 ≡ closing Passed)
    × (play_from ticking 0 (Tick ∷ []) 0 ≡ closing (Stopped stop.AgainLimit))
unfolding play_from
counts_ticks = (refl, refl)

-- whole sessions
abbrev here_text : List ℕ
here_text = codes "background player:0,background:1,\n"

abbrev there_text : List ℕ
there_text = codes "background:0,background player:1,\n"

abbrev frame : FrameKind → List ℕ → Frame
frame kind text = record { kind = kind; level_text = text }

abbrev plan : PlanState
plan = record {
  game = game;
  program = no_rules;
  first = 0;
  order = Rows;
  inputs = Press Right ∷ Undo ∷ Undo ∷ [];
  recorded = (codes "background" ∷ codes "player" ∷ []) ∷ (codes "background" ∷ []) ∷ [];
}

whole_sessions :
    -- a step to the right is taken back, the second undo finds nothing, and the last level is the recorded one
    (items_of_plan (Ok plan) ≡ item.Frame 0 kind.Start 0 here_text ∷ item.Frame 1 kind.Move 1 there_text
    ∷ item.Frame 2 kind.Undo 2 here_text ∷ item.Frame 3 kind.Undo 3 here_text ∷ item.Close Passed ∷ [])
    -- without an input there is the start, and the close
    × (items_of_plan (Ok (record plan { inputs = []; recorded = [] })) ≡ item.Frame 0 kind.Start 0 here_text ∷ item.Close Differs ∷ [])
    -- a refused session has its close alone
    × (items_of_plan (Err NoLevel) ≡ item.Close (Refused NoLevel) ∷ [])
unfolding items_of_plan played_items items_from frames_as_items play_from first_link start_link press_link undo_link effect reached_link kept_link with_past frame_of text_of_level standing_names with_name with_cell piece digits step_of rules_run blocks_run has_won equals_recorded same_set
whole_sessions = (refl, refl, refl)
