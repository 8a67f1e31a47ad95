use Rattle.std.proofs.Common.{length}
use Rattle.pz_names.proofs.MemberLemmas.{value_at-least}
use Rattle.pz_names.proofs.SettledLemmas.{saturated}
use Rattle.pz_names.proofs.denotation.values_are_least.Goals as goal

pub returns-clause-lawful : goal.returns-clause-lawful
returns-clause-lawful c = saturated c.args.meanings.now c.requires

pub returns-clause-least : goal.returns-clause-least
returns-clause-least c = λ g s k d e. (value_at-least g c.args.meanings.now (record { each = s }) (length c.args.meanings.now)).at k d e
