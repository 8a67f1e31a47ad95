-- The collision layers of a game, as the cells of its levels need them: how many there are, and the layer of each object.
use Rattle.std.specs.Prelude.{◌≡◌, ℕ, ◌*◌, ◌<◌, ◌≤◌, List, length, slice_index_or, All}
use Rattle.pz_game.specs.declared.limits.TheConstants.{MOST_OBJECTS, MOST_LAYERS}
use Rattle.pz_game.specs.declared.game.GameParts.{GameParts}
use Rattle.pz_cells.specs.Shown.{IsSetOf}

pub record Layering : Type 0 where
  pub depth : ℕ
  pub layers : List ℕ

-- the layers of a game
abbrev pub layering_of : GameParts → Layering
layering_of game = record { depth = game.depth; layers = game.layers }

-- what holds of layers whose cells fit in N words
pub record IsLayering (N : ℕ) (layering : Layering) : Type 0 where
  pub short : N ≤ 4
  pub few : length layering.layers ≤ MOST_OBJECTS
  pub shallow : layering.depth ≤ MOST_LAYERS
  pub room : length layering.layers ≤ 128 * N
  pub movement_room : layering.depth ≤ 25 * N
  pub layered : All (λ layer. layer < layering.depth) layering.layers

-- there is a set for each layer, which has its objects
pub record HasSets (layering : Layering) (sets : List (List ℕ)) : Type 0 where
  pub deep : length sets ≡ layering.depth
  pub table : (layer : ℕ) (other : List ℕ) → layer < layering.depth → IsSetOf layering.layers (slice_index_or sets layer other) layer

-- what holds of layers as they are kept
pub record AreLayers (N : ℕ) (layering : Layering) (sets : List (List ℕ)) : Type 0 where
  pub law : IsLayering N layering
  pub table : HasSets layering sets
