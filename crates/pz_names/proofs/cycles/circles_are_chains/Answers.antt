use Rattle.std.proofs.Common.{length}
use Rattle.pz_names.proofs.ChainLemmas.{leads_from_reaches, reaches_from_leads}
use Rattle.pz_names.proofs.cycles.circles_are_chains.Goals as goal

pub returns-clause-leads : goal.returns-clause-leads
returns-clause-leads c = leads_from_reaches c.args.meanings.now (length c.args.meanings.now) c.args.number c.args.number

pub returns-clause-found : goal.returns-clause-found
returns-clause-found c = reaches_from_leads c.args.meanings.now c.args.number c.args.number
