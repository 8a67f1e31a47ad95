-- Worked cases of instances, groups, steps and wins.
use Rattle.pz_turn.proofs.Common.{◌≡◌, ℕ, List, [], ◌∷◌, Option, Some, None, Bool, true, false, Ok, Err, length, refl, codes, GameParts, Commands, Instance, Program, RuleRow, Grid, places_or_limit, combinations, cancel, no_commands, application_of, pass_of, rest_of, group_runs, block_runs, blocks_run, rules_run, step_of, has_won, Item, Word, One, Piece, LoopLimit, PASSES}
use Rattle.pz_game.specs.declared.denotation.Denotation.{Denotation}
use Rattle.pz_game.specs.declared.denotation.Kind.{Kind}
use Rattle.pz_game.specs.declared.denotation.Kind.TheVariants.{Object, Property, Aggregate}
use Rattle.pz_game.specs.declared.direction.Dir.TheVariants.{Right}
use Rattle.pz_game.specs.declared.win_line.Quantifier.{Quantifier}
use Rattle.pz_game.specs.declared.win_line.Quantifier.TheVariants as quantifier
use Rattle.pz_game.specs.declared.win_line.WinLine.{WinLine}
use Rattle.pz_game.specs.declared.pattern.Word.TheVariants.{Present, Toward, Absent}

-- the first list varies fastest
in_order : combinations {X = ℕ} ((1 ∷ 2 ∷ []) ∷ (3 ∷ 4 ∷ []) ∷ []) ≡ ((1 ∷ 3 ∷ []) ∷ (2 ∷ 3 ∷ []) ∷ (1 ∷ 4 ∷ []) ∷ (2 ∷ 4 ∷ []) ∷ [])
in_order = refl

abbrev denotes : Kind → List ℕ → ℕ → Denotation
denotes kind members number = record { kind = kind; members = members; number = number }

abbrev line : Quantifier → ℕ → Option ℕ → WinLine
line quantity subject on = record { quantifier = quantity; subject = subject; on = on }

-- object 0 is the background on layer 0; 1 the player, 2 a crate and 3 a wall, on layer 1; the name 4 is a property of crate and
-- wall, the name 5 an aggregate of background and crate
abbrev game_with : Bool → List WinLine → GameParts
game_with must_move wins = record {
  objects = codes "background" ∷ codes "player" ∷ codes "crate" ∷ codes "wall" ∷ [];
  names = codes "background" ∷ codes "player" ∷ codes "crate" ∷ codes "wall" ∷ codes "solid" ∷ codes "@" ∷ [];
  values = denotes Object (0 ∷ []) 0 ∷ denotes Object (1 ∷ []) 1 ∷ denotes Object (2 ∷ []) 2 ∷ denotes Object (3 ∷ []) 3 ∷ denotes Property (2 ∷ 3 ∷ []) 4 ∷ denotes Aggregate (0 ∷ 2 ∷ []) 5 ∷ [];
  layers = 0 ∷ 1 ∷ 1 ∷ 1 ∷ [];
  depth = 2;
  rules = [];
  wins = wins;
  levels = [];
  options = record { run_rules_on_level_start = false; require_player_movement = must_move };
}

abbrev game : GameParts
game = game_with true []

abbrev item : ℕ → Word → Item
item object word = record { object = object; layer = 1; word = word }

abbrev ground : Option Piece
ground = Some (record { object = 0; heading = None })

abbrev one : ℕ → List (Option Piece)
one object = ground ∷ Some (record { object = object; heading = None }) ∷ []

abbrev bare : List (Option Piece)
bare = ground ∷ None ∷ []

-- a level of one row
abbrev strip : List (List (Option Piece)) → Grid
strip cells = record { width = length cells; height = 1; depth = 2; layers = 0 ∷ 1 ∷ 1 ∷ 1 ∷ []; cells = cells }

abbrev row : List (List Item) → RuleRow
row cells = record { cells = cells; gap_at = None }

abbrev rule : List RuleRow → List RuleRow → Commands → Instance
rule left right commands = record { scan = Right; left = left; right = right; commands = commands; below = 0 }

-- right [ > Player | Crate ] -> [ > Player | > Crate ]
abbrev push : Instance
push = rule (row ((item 1 (Toward Right) ∷ []) ∷ (item 2 Present ∷ []) ∷ []) ∷ []) (row ((item 1 (Toward Right) ∷ []) ∷ (item 2 (Toward Right) ∷ []) ∷ []) ∷ []) no_commands

abbrev pushing : Program
pushing = record { early = One (push ∷ []) ∷ []; late = [] }

-- late [ Player | Crate ] -> [ Player | ] cancel: the rewritten level isn't kept
abbrev taking : Program
taking = record { early = []; late = One (rule (row ((item 1 Present ∷ []) ∷ (item 2 Present ∷ []) ∷ []) ∷ []) (row ((item 1 Present ∷ []) ∷ [] ∷ []) ∷ []) cancel ∷ []) ∷ [] }

steps :
    -- the player pushes a crate to the right
    (step_of game pushing (strip (one 1 ∷ one 2 ∷ bare ∷ [])) (Some Right) ≡ Ok (record { level = strip (bare ∷ one 1 ∷ one 2 ∷ []); commands = no_commands; changed = true }))
    -- a crate against a wall doesn't move; since the player has to, the step is cancelled and ends with the level before it
    × (step_of game pushing (strip (one 1 ∷ one 2 ∷ one 3 ∷ [])) (Some Right) ≡ Ok (record { level = strip (one 1 ∷ one 2 ∷ one 3 ∷ []); commands = cancel; changed = false }))
    -- if the player needn't move, nothing has changed and nothing is cancelled
    × (step_of (game_with false []) pushing (strip (one 1 ∷ one 2 ∷ one 3 ∷ [])) (Some Right) ≡ Ok (record { level = strip (one 1 ∷ one 2 ∷ one 3 ∷ []); commands = no_commands; changed = false }))
    -- a step without an input isn't cancelled
    × (step_of game pushing (strip (one 1 ∷ one 2 ∷ one 3 ∷ [])) None ≡ Ok (record { level = strip (one 1 ∷ one 2 ∷ one 3 ∷ []); commands = no_commands; changed = false }))
    -- a step that is cancelled by a rule ends with the level before it
    × (step_of game taking (strip (one 1 ∷ bare ∷ one 2 ∷ [])) (Some Right) ≡ Ok (record { level = strip (one 1 ∷ bare ∷ one 2 ∷ []); commands = cancel; changed = false }))
unfolding step_of rules_run blocks_run block_runs rest_of application_of places_or_limit
steps = (refl, refl, refl, refl, refl)

-- [ Crate ] [ Player ] -> [ ] [ Player ]: both places of the first row, each with the player's, tested again
abbrev eat : Instance
eat = rule (row ((item 2 Present ∷ []) ∷ []) ∷ row ((item 1 Present ∷ []) ∷ []) ∷ []) (row ([] ∷ []) ∷ row ((item 1 Present ∷ []) ∷ []) ∷ []) cancel

-- [ Player ] [ Player ] -> [ Crate ] [ Player ]: the combinations are (0, 0), (1, 0), (0, 1), (1, 1); at (0, 0) the cell becomes
-- a crate and then the player again, at (1, 0) the other cell a crate, and the last two no longer hold
abbrev turn_one : Instance
turn_one = rule (row ((item 1 Present ∷ []) ∷ []) ∷ row ((item 1 Present ∷ []) ∷ []) ∷ []) (row ((item 2 Present ∷ []) ∷ []) ∷ row ((item 1 Present ∷ []) ∷ []) ∷ []) no_commands

applies :
    -- each crate is eaten once
    (application_of eat (strip (one 2 ∷ one 1 ∷ one 2 ∷ [])) ≡ Ok (record { level = strip (bare ∷ one 1 ∷ bare ∷ []); commands = cancel; changed = true }))
    -- without a crate there is no combination, and no command
    × (application_of eat (strip (bare ∷ one 1 ∷ [])) ≡ Ok (record { level = strip (bare ∷ one 1 ∷ []); commands = no_commands; changed = false }))
    × (application_of turn_one (strip (one 1 ∷ one 1 ∷ bare ∷ [])) ≡ Ok (record { level = strip (one 1 ∷ one 2 ∷ bare ∷ []); commands = no_commands; changed = true }))
    -- [ Player ] -> [ Player ] cancel: the command is given though nothing changes
    × (application_of (rule (row ((item 1 Present ∷ []) ∷ []) ∷ []) (row ((item 1 Present ∷ []) ∷ []) ∷ []) cancel) (strip (one 1 ∷ [])) ≡ Ok (record { level = strip (one 1 ∷ []); commands = cancel; changed = false }))
unfolding application_of places_or_limit
applies = (refl, refl, refl, refl)

-- [ Player ] -> [ Crate ] and + [ Crate ] -> [ Player ]: each pass gives the level before it, and yet the group is not at rest
abbrev to_and_fro : List Instance
to_and_fro = rule (row ((item 1 Present ∷ []) ∷ []) ∷ []) (row ((item 2 Present ∷ []) ∷ []) ∷ []) no_commands ∷ rule (row ((item 2 Present ∷ []) ∷ []) ∷ []) (row ((item 1 Present ∷ []) ∷ []) ∷ []) no_commands ∷ []

-- [ Player | no Player no Crate no Wall ] -> [ Player | Crate ], and in a group of its own [ Crate ] -> [ Player ]
abbrev spread : List (List Instance)
spread = (rule (row ((item 1 Present ∷ []) ∷ (item 1 Absent ∷ item 2 Absent ∷ item 3 Absent ∷ []) ∷ []) ∷ []) (row ((item 1 Present ∷ []) ∷ (item 2 Present ∷ []) ∷ []) ∷ []) no_commands ∷ []) ∷ (rule (row ((item 2 Present ∷ []) ∷ []) ∷ []) (row ((item 1 Present ∷ []) ∷ []) ∷ []) no_commands ∷ []) ∷ []

rests_and_loops :
    (rest_of 4 (pass_of application_of to_and_fro) (strip (one 1 ∷ [])) ≡ Err LoopLimit)
    -- one after another the groups spread once
    × (pass_of (group_runs PASSES application_of) spread (strip (one 1 ∷ bare ∷ bare ∷ bare ∷ [])) ≡ Ok (record { level = strip (one 1 ∷ one 1 ∷ bare ∷ bare ∷ []); commands = no_commands; changed = true }))
    -- as a loop they spread over the level
    × (rest_of PASSES (pass_of (group_runs PASSES application_of) spread) (strip (one 1 ∷ bare ∷ bare ∷ bare ∷ [])) ≡ Ok (record { level = strip (one 1 ∷ one 1 ∷ one 1 ∷ one 1 ∷ []); commands = no_commands; changed = true }))
unfolding rest_of application_of places_or_limit
rests_and_loops = (refl, refl, refl)

abbrev crates : Grid
crates = strip (one 1 ∷ one 2 ∷ one 3 ∷ [])

wins :
    -- without a line nothing is won
    (has_won game crates ≡ false)
    -- All Crate on Solid; Some Solid on Crate; No Player on Solid; All Wall; Some @; No @ on Wall
    × (has_won (game_with false (line quantifier.All 2 (Some 4) ∷ line quantifier.Some 4 (Some 2) ∷ line quantifier.No 1 (Some 4) ∷ line quantifier.All 3 None ∷ line quantifier.Some 5 None ∷ line quantifier.No 5 (Some 3) ∷ [])) crates ≡ true)
    -- All Solid on Crate: one solid on a crate is not enough
    × (has_won (game_with false (line quantifier.All 4 (Some 2) ∷ [])) crates ≡ false)
    -- Some @ where no cell holds both the background and a crate
    × (has_won (game_with false (line quantifier.Some 5 None ∷ [])) (strip (one 1 ∷ one 3 ∷ [])) ≡ false)
unfolding has_won
wins = (refl, refl, refl, refl)
