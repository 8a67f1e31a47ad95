use Rattle.std.proofs.Common.{length}
use Rattle.pz_names.proofs.QuickLemmas.{on_cycle-none}
use Rattle.pz_names.proofs.cycles.circles_have_no_value.Goals as goal

pub returns : goal.returns
returns c = on_cycle-none c.args.meanings.now (length c.args.meanings.now) c.args.number
