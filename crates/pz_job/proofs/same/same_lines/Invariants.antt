use Rattle.std.proofs.Common.{◌≡◌, ℕ, ◌<◌, length}
use Rattle.std.specs.Prelude.{slice_index_or}
use Rattle.pz_game.specs.declared.rule_line.RuleLine.{RuleLine}
use Rattle.pz_job.specs.SameRules.{IsSameLine}
use Rattle.pz_job.proofs.same.same_lines.Given as goal

abbrev pub invariant-loop-number : goal.invariant-loop-number
invariant-loop-number l = record {
  count : length l.lines ≡ length l.others;
  each : (k : ℕ) (d e : RuleLine) → k < l.number → IsSameLine l.game.names l.other.names (slice_index_or l.lines k d) (slice_index_or l.others k e);
}
