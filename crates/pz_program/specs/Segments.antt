-- Groups in segments: runs of instances that may be left out together.
use Rattle.std.specs.Prelude.{◌≡◌, ◌⊎◌, ◌≤◌, ◌-◌, ℕ, List, [], ◌∷◌, None, true, All, take, drop, length}
use Rattle.std.specs.List.{flat_map}
use Rattle.pz_sets.specs.Sets.{member}
use Rattle.pz_program.specs.Commands.{no_commands}
use Rattle.pz_game.specs.Masks.{IsLow}
use Rattle.pz_game.specs.Pattern.{RuleRow, AsksAmong}
use Rattle.pz_program.specs.declared.instance.Instance.{Instance}
use Rattle.pz_program.specs.declared.group.Segment.{Segment}

-- an instance that does nothing on any level: it has no right and no commands, and one row, without a gap
pub record IsIdle (instance : Instance) : Type 0 where
  pub right : instance.right ≡ []
  pub commands : instance.commands ≡ no_commands
  pub row : RuleRow
  pub left : instance.left ≡ row ∷ []
  pub gapless : row.gap_at ≡ None

-- the first row of an instance asks for a direction of the set, if its items are within the limits of games
pub record IsMoving (set : List ℕ) (instance : Instance) : Type 0 where
  pub row : RuleRow
  pub rows : List RuleRow
  pub left : instance.left ≡ row ∷ rows
  pub asks : All (All IsLow) row.cells → AsksAmong set row.cells

-- an instance asks for a direction of each set that has this number
abbrev pub AsksFor : ℕ → Instance → Type 0
AsksFor number instance = (set : List ℕ) → member set number ≡ true → IsMoving set instance

-- an instance that does nothing if nothing heads in a direction of a set
abbrev pub IsLeftOut : List ℕ → Instance → Type 0
IsLeftOut set instance = IsIdle instance ⊎ IsMoving set instance

-- the instances of a segment
abbrev pub instances_in : List Instance → Segment → List Instance
instances_in instances segment = take (segment.end - segment.start) (drop segment.start instances)

-- a segment of a group: its instances are among those of the group, and if it needs headings, each does nothing without one
-- of those that are asked for
pub record IsSegmentOf (instances : List Instance) (segment : Segment) : Type 0 where
  pub order : segment.start ≤ segment.end
  pub within : segment.end ≤ length instances
  pub told : segment.needs_headings ≡ true → All (IsLeftOut segment.asked) (instances_in instances segment)

-- the segments of a group: one after the other, they have its instances
pub record AreSegmentsOf (instances : List Instance) (segments : List Segment) : Type 0 where
  pub each : All (IsSegmentOf instances) segments
  pub whole : flat_map (instances_in instances) segments ≡ instances
