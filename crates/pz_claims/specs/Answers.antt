-- What a claim answers.
use Rattle.std.specs.Prelude.{◌≡◌, ◌<◌, ◌≤◌, [], ◌∷◌, ◌++◌, All}
use Rattle.pz_claims.specs.Holders.{Holding}
use Rattle.pz_claims.specs.declared.table.Claimed.{Claimed}
use Rattle.pz_claims.specs.declared.table.Claimed.TheVariants.{Got, Done}

-- Got: a number below the total and greater than all that the seat had, which is now its last. Done: the seat has ended
-- with its numbers, and the word that it found says that none is left
abbrev pub IsClaim : Holding → Claimed → Type 0
IsClaim old (Got seat number) = (number < old.of.total) × All (λ x. x < number) old.numbers × (seat ≡ record old { numbers = old.numbers ++ number ∷ [] })
IsClaim old (Done ended) = (ended.of ≡ old.of) × (ended.numbers ≡ old.numbers) × (old.of.total ≤ ended.found)
