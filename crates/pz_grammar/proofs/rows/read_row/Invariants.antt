use Rattle.std.proofs.Common.{◌≡◌, ◌≤◌, length}
use Rattle.pz_grammar.specs.Parsed.{inside}
use Rattle.pz_grammar.specs.Steps.{before}
use Rattle.pz_grammar.proofs.rows.read_row.Given as goal

abbrev pub invariant-loop-token : goal.invariant-loop-token
invariant-loop-token l = record {
  goes_on : before l.row.cells l.row.cell (inside l.rest) ≡ inside l.tokens;
  shorter : length l.rest ≤ length l.tokens;
}

abbrev pub decreases-loop-token : goal.decreases-loop-token
decreases-loop-token l = length l.rest
