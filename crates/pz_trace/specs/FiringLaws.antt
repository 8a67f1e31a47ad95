-- Laws of the firings of a block.
use Rattle.std.specs.Prelude.{◌≡◌, Bool, true, false, List, ◌∷◌, ◌++◌, fold, length, Some, None, Result, Ok, Err}
use Rattle.pz_game.specs.declared.rule_line.RuleLine.{RuleLine}
use Rattle.pz_program.specs.declared.instance.Instance.{Instance}
use Rattle.pz_program.specs.declared.instance.Block.{Block}
use Rattle.pz_sheet.specs.Grid.{Grid}
use Rattle.pz_turn.specs.declared.outcome.StepFault.{StepFault}
use Rattle.pz_turn.specs.Outcome.{Outcome}
use Rattle.pz_turn.specs.Step.{block_runs}
use Rattle.pz_trace.specs.Firings.{FiringState, Sequence, firings_of}
use Rattle.pz_trace.specs.SourceLines.{line_of}

-- the level that is left, and whether something changed
pub record Left : Type 0 where
  pub level : Grid
  pub changed : Bool

abbrev pub behind : Left → FiringState → Left
behind before firing = record { level = firing.gave.level; changed = true }

-- how firings end that come behind this
abbrev pub end_behind : Left → Sequence → Result Left StepFault
end_behind before sequence = elim sequence.stop [ None ↦ Ok (fold behind before sequence.firings) | Some fault ↦ Err fault ]

abbrev pub end_in : Grid → Sequence → Result Left StepFault
end_in grid sequence = end_behind (record { level = grid; changed = false }) sequence

abbrev pub without_commands : Result (Outcome Grid) StepFault → Result Left StepFault
without_commands (Err fault) = Err fault
without_commands (Ok gave) = Ok (record { level = gave.level; changed = gave.changed })

-- the last firing leaves the level that the block leaves; there is one exactly if the block changes something; and the firings stop
-- exactly if the block does
abbrev pub FiringsEndTheBlock : Type 0
FiringsEndTheBlock = (rules : List RuleLine) (block : Block) (grid : Grid) → end_in grid (firings_of rules block grid) ≡ without_commands (block_runs block grid)

-- the line that is told of an instance is that of its rule: the line of RULES below which as many lines stand as the instance says
abbrev pub LineIsTheRules : Type 0
LineIsTheRules = (above below : List RuleLine) (rule : RuleLine) (instance : Instance) → instance.below ≡ length below → line_of (above ++ rule ∷ below) instance ≡ rule.number
