-- Games whose rules are the same.
use Rattle.std.specs.Prelude.{◌≡◌, ◌<◌, ℕ, List, length, All, slice_index_or}
use Rattle.pz_base.specs.NameSet.{number_in}
use Rattle.pz_game.specs.declared.game.GameParts.{GameParts}
use Rattle.pz_game.specs.declared.rule_line.RuleLine.{RuleLine}

-- the same words, each of them the same name in two games with these names
pub record IsSameLine (names others : List (List ℕ)) (line other : RuleLine) : Type 0 where
  pub words : line.words ≡ other.words
  pub numbers : All (λ word. number_in names word ≡ number_in others word) line.words

-- line by line
pub record AreSameLines (names others : List (List ℕ)) (lines more : List RuleLine) : Type 0 where
  pub count : length lines ≡ length more
  pub each : (k : ℕ) (d e : RuleLine) → k < length lines → IsSameLine names others (slice_index_or lines k d) (slice_index_or more k e)

-- the lines of RULES say the same, what names denote is the same, and objects lie in the same layers; the lines may stand elsewhere,
-- and the levels and all else may differ
pub record HaveSameRules (game other : GameParts) : Type 0 where
  pub lines : AreSameLines game.names other.names game.rules other.rules
  pub values : game.values ≡ other.values
  pub layers : game.layers ≡ other.layers
