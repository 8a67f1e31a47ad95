-- Worked sessions, computed.
use Rattle.pz_session.proofs.Common.{◌≡◌, ℕ, List, [], ◌∷◌, Option, Some, None, false, if◌then◌else◌, refl, codes, GameParts, Program, Grid, step_of, rules_run, blocks_run, block_runs, has_won, Input, FrameKind, Item, level_from, PlanState, play_from, frames_as_items, items_from, frame_of, start_link, press_link, tick_link, undo_link, restart_link, won_link, kept_link, reached_link, effect, first_link, with_past, played_items, Left, Right, LevelEntry, Message, Level, Piece, Press, Undo, Restart, Tick, Rows, equals_recorded, text_of_level, Passed, Differs}
use Rattle.pz_game.specs.declared.win_line.Quantifier.TheVariants.{No}
use Rattle.pz_game.specs.declared.win_line.WinLine.{WinLine}
use Rattle.pz_program.specs.declared.instance.Block.TheVariants.{One}
use Rattle.pz_game.specs.declared.pattern.Word.TheVariants.{Toward}
use Rattle.pz_game.specs.Pattern.{RuleRow}
use Rattle.pz_grid.specs.Places.{places_or_limit}
use Rattle.pz_turn.specs.Applying.{application_of}
use Rattle.pz_turn.specs.Rest.{rest_of}
use Rattle.pz_case.specs.declared.item.FrameKind.TheVariants as kind
use Rattle.pz_case.specs.declared.item.Item.TheVariants.{Frame, Close}
use Rattle.pz_session.proofs.WorkedSessions.{object, no_rules}

-- a row of cells, by the numbers of their glyphs
abbrev row : ℕ → List ℕ → LevelEntry
row width glyphs = Level (record { width = width; height = 1; cells = glyphs })

-- background, wall and player; the wall and the player share a layer; glyphs 3 ".", 4 "#" and 5 "p"
abbrev game_with : List WinLine → List LevelEntry → GameParts
game_with wins levels = record {
  objects = codes "background" ∷ codes "wall" ∷ codes "player" ∷ [];
  names = codes "background" ∷ codes "wall" ∷ codes "player" ∷ codes "." ∷ codes "#" ∷ codes "p" ∷ [];
  values = object 0 ∷ object 1 ∷ object 2 ∷ object 0 ∷ object 1 ∷ object 2 ∷ [];
  layers = 0 ∷ 1 ∷ 1 ∷ [];
  depth = 2;
  rules = [];
  wins = wins;
  levels = levels;
  options = record { run_rules_on_level_start = false; require_player_movement = false };
}

abbrev game : List LevelEntry → GameParts
game levels = game_with [] levels

abbrev still : ℕ → Option Piece
still object = Some (record { object = object; heading = None })

abbrev floor : List (Option Piece)
floor = still 0 ∷ None ∷ []

abbrev wall : List (Option Piece)
wall = still 0 ∷ still 1 ∷ []

abbrev player : List (Option Piece)
player = still 0 ∷ still 2 ∷ []

abbrev level : ℕ → List (List (Option Piece)) → Grid
level width cells = record { width = width; height = 1; depth = 2; layers = 0 ∷ 1 ∷ 1 ∷ []; cells = cells }

abbrev playing : GameParts → Program → List Input → PlanState
playing game program inputs = record { game = game; program = program; first = 0; inputs = inputs; recorded = []; order = Rows }

abbrev shown : GameParts → ℕ → ℕ → FrameKind → Grid → Item
shown game number at kind grid = Frame number kind at (text_of_level game Rows grid)

abbrev closed : GameParts → Grid → Item
closed game grid = Close (if equals_recorded game Rows grid [] then Passed else Differs)

abbrev session : LevelEntry → List Input → PlanState
session entry inputs = playing (game (entry ∷ [])) no_rules inputs

abbrev shows : LevelEntry → ℕ → ℕ → FrameKind → Grid → Item
shows entry number at kind grid = shown (game (entry ∷ [])) number at kind grid

abbrev closes : LevelEntry → Grid → Item
closes entry grid = closed (game (entry ∷ [])) grid

-- #p.#, and twice to the right: the second press shows the same level
abbrev walled : LevelEntry
walled = row 4 (4 ∷ 5 ∷ 3 ∷ 4 ∷ [])

-- p..: an undo takes back a press if there is one, and else shows the level as it is
abbrev free : LevelEntry
free = row 3 (5 ∷ 3 ∷ 3 ∷ [])

abbrev at_start : Grid
at_start = level 3 (player ∷ floor ∷ floor ∷ [])

abbrev one_on : Grid
one_on = level 3 (floor ∷ player ∷ floor ∷ [])

plays :
    (played_items (session walled (Press Right ∷ Press Right ∷ []))
    ≡ shows walled 0 0 kind.Start (level 4 (wall ∷ player ∷ floor ∷ wall ∷ [])) ∷ shows walled 1 1 kind.Move (level 4 (wall ∷ floor ∷ player ∷ wall ∷ []))
    ∷ shows walled 2 2 kind.Move (level 4 (wall ∷ floor ∷ player ∷ wall ∷ [])) ∷ closes walled (level 4 (wall ∷ floor ∷ player ∷ wall ∷ [])) ∷ [])
    × (played_items (session free (Undo ∷ Press Right ∷ Undo ∷ []))
    ≡ shows free 0 0 kind.Start at_start ∷ shows free 1 1 kind.Undo at_start ∷ shows free 2 2 kind.Move one_on ∷ shows free 3 3 kind.Undo at_start ∷ closes free at_start ∷ [])
    -- a restart can be undone; one that changes nothing shows the level, and leaves the past
    × (played_items (session free (Press Right ∷ Restart ∷ Restart ∷ Undo ∷ []))
    ≡ shows free 0 0 kind.Start at_start ∷ shows free 1 1 kind.Move one_on ∷ shows free 2 2 kind.Restart at_start ∷ shows free 3 3 kind.Restart at_start
    ∷ shows free 4 4 kind.Undo one_on ∷ closes free one_on ∷ [])
    -- a press that moves nothing shows the level, and leaves the past; an idle tick shows nothing, and counts as an input
    × (played_items (session free (Press Left ∷ Tick ∷ Undo ∷ []))
    ≡ shows free 0 0 kind.Start at_start ∷ shows free 1 1 kind.Move at_start ∷ shows free 2 3 kind.Undo at_start ∷ closes free at_start ∷ [])
unfolding played_items play_from frames_as_items items_from frame_of start_link press_link tick_link undo_link restart_link won_link kept_link reached_link effect first_link with_past level_from step_of rules_run blocks_run block_runs has_won
plays = (refl, refl, refl, refl)

-- right [ > Player ] -> [ > Player ], which gives commands
abbrev moving : RuleRow
moving = record { cells = (record { object = 2; layer = 1; word = Toward Right } ∷ []) ∷ []; gap_at = None }

abbrev giving : ℕ → Program
giving commands = record {
  early = One (record { scan = Right; left = moving ∷ []; right = moving ∷ []; commands = record { 0 = commands }; below = 0 } ∷ []) ∷ [];
  late = [];
}

gives_commands :
    -- a checkpoint is the end of its step, and an undo doesn't take it back
    (played_items (playing (game (free ∷ [])) (giving 4) (Press Right ∷ Undo ∷ Restart ∷ []))
    ≡ shows free 0 0 kind.Start at_start ∷ shows free 1 1 kind.Move one_on ∷ shows free 2 2 kind.Undo at_start ∷ shows free 3 3 kind.Restart one_on ∷ closes free one_on ∷ [])
    -- a step that restarts shows the target in its place
    × (played_items (playing (game (free ∷ [])) (giving 8) (Press Left ∷ Press Right ∷ []))
    ≡ shows free 0 0 kind.Start at_start ∷ shows free 1 1 kind.Move at_start ∷ shows free 2 2 kind.Restart at_start ∷ closes free at_start ∷ [])
    -- `again` asks for a tick if the step changed the level; an idle tick isn't shown
    × (played_items (playing (game (free ∷ [])) (giving 1) (Press Right ∷ []))
    ≡ shows free 0 0 kind.Start at_start ∷ shows free 1 1 kind.Move one_on ∷ closes free one_on ∷ [])
    -- a cancelled press shows the level that stays
    × (played_items (playing (game (free ∷ [])) (giving 10) (Press Right ∷ []))
    ≡ shows free 0 0 kind.Start at_start ∷ shows free 1 1 kind.Move at_start ∷ closes free at_start ∷ [])
unfolding played_items play_from frames_as_items items_from frame_of start_link press_link tick_link undo_link restart_link won_link kept_link reached_link effect first_link with_past level_from step_of rules_run blocks_run block_runs rest_of application_of places_or_limit has_won
gives_commands = (refl, refl, refl, refl)

-- no Wall: each press wins; a load shows the next level, which has no past, and after the last one each input shows it
abbrev no_wall : WinLine
no_wall = record { quantifier = No; subject = 1; on = None }

abbrev two_levels : GameParts
two_levels = game_with (no_wall ∷ []) (free ∷ Message ∷ row 2 (5 ∷ 3 ∷ []) ∷ Message ∷ [])

pub wins : played_items (playing two_levels no_rules (Press Right ∷ Undo ∷ Press Right ∷ Undo ∷ []))
    ≡ shown two_levels 0 0 kind.Start at_start ∷ shown two_levels 1 1 kind.Move one_on ∷ shown two_levels 2 1 kind.Load (level 2 (player ∷ floor ∷ []))
    ∷ shown two_levels 3 2 kind.Undo (level 2 (player ∷ floor ∷ [])) ∷ shown two_levels 4 3 kind.Move (level 2 (floor ∷ player ∷ []))
    ∷ shown two_levels 5 4 kind.Over (level 2 (floor ∷ player ∷ [])) ∷ closed two_levels (level 2 (floor ∷ player ∷ [])) ∷ []
unfolding played_items play_from frames_as_items items_from frame_of start_link press_link tick_link undo_link restart_link won_link kept_link reached_link effect first_link with_past level_from step_of rules_run blocks_run block_runs has_won
wins = refl
