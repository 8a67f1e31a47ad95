use Rattle.pz_grid_laws.proofs.RewritingLemmas.{rewritten_is_cell}
use Rattle.pz_grid_laws.proofs.rule_laws.rewriting_is_lawful.Goals as goal

pub returns : goal.returns
returns c = λ depth layers left right cell are h. rewritten_is_cell depth layers left right cell are h
