-- Digests, and where they are.
use Rattle.std.specs.Prelude.{◌≡◌, ℕ, ◌<◌, ◌≤◌, List, length, Option, Some, None, slice_get}

-- the last place of a digest below a number, if there is one
abbrev pub IsNewest : List ℕ → ℕ → ℕ → Option ℕ → Type 0
IsNewest digests below digest None = (place : ℕ) → place < below → slice_get digests place ≡ Some digest → ⊥
IsNewest digests below digest (Some newest) =
    (newest < below) × (slice_get digests newest ≡ Some digest) × ((place : ℕ) → place < below → slice_get digests place ≡ Some digest → place ≤ newest)

-- for each digest its last place is known, and for each place the one before it with the same digest
pub record IsIndexed (digests : List ℕ) (olders : List (Option ℕ)) (newest : ℕ → Option ℕ) : Type 0 where
  pub long : length olders ≡ length digests
  pub last : (digest : ℕ) → IsNewest digests (length digests) digest (newest digest)
  pub before : (place digest : ℕ) (older : Option ℕ) → slice_get digests place ≡ Some digest → slice_get olders place ≡ Some older → IsNewest digests place digest older
