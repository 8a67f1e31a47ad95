use Rattle.std.proofs.Common.{◌∙◌}
use Rattle.std.proofs.lemmas.Result.{IfOk-weaker}
use Rattle.pz_lines.proofs.From.{all_from_0}
use Rattle.pz_engine.specs.Sessions.{shown_of}
use Rattle.pz_engine.proofs.engine.lines.Goals as goal

pub returns-clause-played : goal.returns-clause-played
returns-clause-played c = IfOk-weaker c.lines_from.result _ _ (λ played is. record {
  entries = is.entries;
  read = is.read;
  whole = is.whole ∙ all_from_0 (shown_of c.args.order is.entries);
  told = is.told;
}) c.lines_from.ensures.played
