use Rattle.pz_names.proofs.CycleLemmas.{value_at-some}
use Rattle.pz_names.proofs.cycles.every_name_denotes.Goals as goal

pub returns : goal.returns
returns c = value_at-some c.args.meanings.now c.requires.inside c.requires.acyclic
