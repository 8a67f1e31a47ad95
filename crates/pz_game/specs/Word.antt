-- What a name is made of.
use Rattle.std.specs.Prelude.{◌≡◌, ◌≢◌, ℕ, ◌<◌, List, length, All}
use Rattle.pz_base.specs.Name.{lower_case}

-- a name is a word: it has a character, no space or line end, and no capital letter
pub record IsWord (name : List ℕ) : Type 0 where
  pub some : 0 < length name
  pub solid : All (λ c. c ≢ 32 × c ≢ 10 × c ≢ 13) name
  pub lower : lower_case name ≡ name
