-- What needn't run again: it would leave the level as it is, and would only give commands that are already given.
use Rattle.std.specs.Prelude.{◌≡◌, ℕ, ◌≤◌, ◌<◌, false, Ok, List, length, slice_index_or}
use Rattle.pz_program.specs.declared.commands.Commands.{Commands}
use Rattle.pz_program.specs.Commands.{either}
use Rattle.pz_turn.specs.Rest.{Runs}

-- a run on the level leaves it as it is, and gives no commands but these
pub record IsCalm {L I : Type 0} (runs : I → Runs L) (commands : Commands) (level : L) (item : I) : Type 0 where
  pub gives : Commands
  pub quiet : runs item level ≡ Ok (record { level = level; commands = gives; changed = false })
  pub known : either commands gives ≡ commands

-- all items from this number on are calm
abbrev pub AreCalmFrom : {L I : Type 0} → (I → Runs L) → Commands → L → List I → ℕ → Type 0
AreCalmFrom {L} {I} runs commands level items from =
    (number : ℕ) (other : I) → from ≤ number → number < length items → IsCalm runs commands level (slice_index_or items number other)
