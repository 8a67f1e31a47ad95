use Rattle.std.proofs.Common.{rules}
use Rattle.pz_entries.specs.Names.{name_set}
use Rattle.pz_entries.proofs.names.read_names.Goals as goal

pub words-init : goal.words-init
unfolding name_set
words-init c = search rules
