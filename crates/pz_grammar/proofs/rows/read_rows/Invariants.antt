use Rattle.std.proofs.Common.{◌≡◌, length}
use Rattle.pz_grammar.specs.Parsed.{outside}
use Rattle.pz_grammar.specs.Steps.{rows_before}
use Rattle.pz_grammar.proofs.rows.read_rows.Given as goal

abbrev pub invariant-loop-inner : goal.invariant-loop-inner
invariant-loop-inner l = rows_before l.rows.items (outside l.rest) ≡ outside l.tokens

abbrev pub decreases-loop-inner : goal.decreases-loop-inner
decreases-loop-inner l = length l.rest
