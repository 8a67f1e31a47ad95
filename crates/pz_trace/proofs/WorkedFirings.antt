-- Worked cases of firings.
use Rattle.std.proofs.Common.{◌≡◌, ℕ, List, [], ◌∷◌, Option, Some, None, Ok, length, refl}
use Rattle.pz_cells.specs.declared.piece.Piece.{Piece}
use Rattle.pz_game.specs.declared.direction.Dir.TheVariants.{Right}
use Rattle.pz_game.specs.declared.pattern.Item.{Item}
use Rattle.pz_game.specs.declared.pattern.Word.{Word}
use Rattle.pz_game.specs.declared.pattern.Word.TheVariants.{Present, Absent}
use Rattle.pz_game.specs.Pattern.{RuleRow}
use Rattle.pz_program.specs.Commands.{no_commands}
use Rattle.pz_program.specs.declared.instance.Instance.{Instance}
use Rattle.pz_program.specs.declared.instance.Block.TheVariants.{One, Loop}
use Rattle.pz_sheet.specs.Grid.{Grid}
use Rattle.pz_grid.specs.declared.placing.Place.{Place}
unfoldable use Rattle.pz_grid.specs.Places.{places_or_limit}
use Rattle.pz_turn.specs.declared.outcome.StepFault.TheVariants.{LoopLimit}
use Rattle.pz_trace.specs.Firings.{FiringState, over, nothing_later, told_pass}
unfoldable use Rattle.pz_trace.specs.Firings.{firing_of, firings_of, told_rest}

-- object 0 is the background on layer 0; 1 the player, 2 a crate and 3 a wall, on layer 1
abbrev item : ℕ → Word → Item
item object word = record { object = object; layer = 1; word = word }

abbrev one : ℕ → List (Option Piece)
one object = Some (record { object = 0; heading = None }) ∷ Some (record { object = object; heading = None }) ∷ []

abbrev bare : List (Option Piece)
bare = Some (record { object = 0; heading = None }) ∷ None ∷ []

-- a level of one row
abbrev strip : List (List (Option Piece)) → Grid
strip cells = record { width = length cells; height = 1; depth = 2; layers = 0 ∷ 1 ∷ 1 ∷ 1 ∷ []; cells = cells }

abbrev row : List (List Item) → RuleRow
row cells = record { cells = cells; gap_at = None }

abbrev rule : List RuleRow → List RuleRow → Instance
rule left right = record { scan = Right; left = left; right = right; commands = no_commands; below = 0 }

abbrev place : ℕ → Place
place x = record { x = x; y = 0; gap = 0 }

-- [ Player ] -> [ Crate ]
abbrev crates : Instance
crates = rule (row ((item 1 Present ∷ []) ∷ []) ∷ []) (row ((item 2 Present ∷ []) ∷ []) ∷ [])

-- [ Crate ] -> [ Player ]
abbrev players : Instance
players = rule (row ((item 2 Present ∷ []) ∷ []) ∷ []) (row ((item 1 Present ∷ []) ∷ []) ∷ [])

-- [ Player | no Player no Crate no Wall ] -> [ Player | Crate ]
abbrev spreads : Instance
spreads = rule (row ((item 1 Present ∷ []) ∷ (item 1 Absent ∷ item 2 Absent ∷ item 3 Absent ∷ []) ∷ []) ∷ []) (row ((item 1 Present ∷ []) ∷ (item 2 Present ∷ []) ∷ []) ∷ [])

-- [ Player ] [ Player ] -> [ Crate ] [ Player ]
abbrev turns : Instance
turns = rule (row ((item 1 Present ∷ []) ∷ []) ∷ row ((item 1 Present ∷ []) ∷ []) ∷ []) (row ((item 2 Present ∷ []) ∷ []) ∷ row ((item 1 Present ∷ []) ∷ []) ∷ [])

fires :
    -- at each player in order
    (firing_of crates (strip (one 1 ∷ bare ∷ one 1 ∷ [])) ≡ Ok (record { level = strip (one 2 ∷ bare ∷ one 2 ∷ []); places = (place 0 ∷ []) ∷ (place 2 ∷ []) ∷ [] }))
    -- nowhere
    × (firing_of crates (strip (bare ∷ one 2 ∷ [])) ≡ Ok (record { level = strip (bare ∷ one 2 ∷ []); places = [] }))
    -- at (0, 0) the cell becomes a crate and then the player again, which counts; at (1, 0) the other cell a crate; the rest no longer holds
    × (firing_of turns (strip (one 1 ∷ one 1 ∷ bare ∷ [])) ≡ Ok (record { level = strip (one 1 ∷ one 2 ∷ bare ∷ []); places = (place 0 ∷ place 0 ∷ []) ∷ (place 1 ∷ place 0 ∷ []) ∷ [] }))
unfolding firing_of places_or_limit
fires = (refl, refl, refl)

-- an instance that fired at one place
abbrev at : ℕ → ℕ → ℕ → ℕ → ℕ → List (List (Option Piece)) → FiringState
at round group pass instance x cells =
    record { moment = record { round = round; group = group; pass = pass; instance = instance }; line = 0; scan = Right; gave = record { level = strip cells; places = (place x ∷ []) ∷ [] } }

blocks :
    -- a group at rest
    (firings_of [] (One (players ∷ [])) (strip (one 1 ∷ [])) ≡ over)
    -- two instances of a group fire in its first pass, and none in its second
    × (firings_of [] (One (players ∷ spreads ∷ [])) (strip (one 2 ∷ bare ∷ [])) ≡ record {
      firings = at 0 0 0 0 0 (one 1 ∷ bare ∷ []) ∷ at 0 0 0 1 0 (one 1 ∷ one 2 ∷ []) ∷ at 0 0 1 0 1 (one 1 ∷ one 1 ∷ []) ∷ [];
      stop = None;
    })
    -- a loop of two groups goes round until a round changes nothing
    × (firings_of [] (Loop ((spreads ∷ []) ∷ (players ∷ []) ∷ [])) (strip (one 1 ∷ bare ∷ bare ∷ [])) ≡ record {
      firings = at 0 0 0 0 0 (one 1 ∷ one 2 ∷ bare ∷ []) ∷ at 0 1 0 0 1 (one 1 ∷ one 1 ∷ bare ∷ []) ∷ at 1 0 0 0 1 (one 1 ∷ one 1 ∷ one 2 ∷ []) ∷ at 1 1 0 0 2 (one 1 ∷ one 1 ∷ one 1 ∷ []) ∷ [];
      stop = None;
    })
    -- with two passes left, neither of which is the last
    × (told_rest (told_pass [] 0 0 (crates ∷ players ∷ [])) 2 0 nothing_later (strip (one 1 ∷ [])) ≡ record {
      firings = at 0 0 0 0 0 (one 2 ∷ []) ∷ at 0 0 0 1 0 (one 1 ∷ []) ∷ at 0 0 1 0 0 (one 2 ∷ []) ∷ at 0 0 1 1 0 (one 1 ∷ []) ∷ [];
      stop = Some LoopLimit;
    })
unfolding firings_of told_rest firing_of places_or_limit
blocks = (refl, refl, refl, refl)
