-- What contracts see of a reader whose calls are counted.
use Rattle.std.specs.Prelude.{ℕ, Bool, List, Option}

-- the bytes that are still to come, if they are known; how often the reader was called; and whether a call answered an error
pub record Reads : Type 0 where
  pub remaining : Option (List ℕ)
  pub calls : ℕ
  pub has_failed : Bool
