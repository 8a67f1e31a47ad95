-- What contracts see of a claim table and of its holders: the maker, the seats, and the seats that have ended.
use Rattle.std.specs.Prelude.{ℕ, List}
use Rattle.atomic_table.specs.Seated.{TableId}

-- a table of the numbers below `total`
pub record Numbers : Type 0 where
  pub table : TableId
  pub total : ℕ

-- a seat that may claim, with the numbers that it claimed, in order
pub record Holding : Type 0 where
  pub of : Numbers
  pub numbers : List ℕ

-- a seat that has ended, with the numbers that it claimed, in order, and the word that its last claim found
pub record Ending : Type 0 where
  pub of : Numbers
  pub numbers : List ℕ
  pub found : ℕ

-- the maker, with the numbers of the seats that it joined, one seat's after the other's
pub record Makes : Type 0 where
  pub of : Numbers
  pub numbers : List ℕ
  pub made : ℕ
  pub joined : ℕ
