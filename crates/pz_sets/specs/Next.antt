-- The first number that passes a test.
use Rattle.std.specs.Prelude.{◌≡◌, ℕ, ◌<◌, ◌≤◌, Bool, true, false, Option, Some, None}

-- the least number from one on and below another that passes a test, if there is one
abbrev pub IsNext : (ℕ → Bool) → ℕ → ℕ → Option ℕ → Type 0
IsNext test from end None = (number : ℕ) → from ≤ number → number < end → test number ≡ false
IsNext test from end (Some found) =
    (from ≤ found) × (found < end) × (test found ≡ true) × ((number : ℕ) → from ≤ number → number < found → test number ≡ false)
