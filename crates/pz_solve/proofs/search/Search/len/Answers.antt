use Rattle.std.proofs.Common.{◌∙◌}
use Rattle.pz_solve.proofs.Finding.{length_links}
use Rattle.pz_solve.proofs.search.Search.len.Goals as goal

pub returns-clause-count : goal.returns-clause-count
returns-clause-count c = c.len.ensures ∙ c.self.inside.links.ok.0 ∙ length_links c.self.inside.levels.grids c.self.inside.links.items c.args.self.now c.self.invariant.linked c.self.view_is
