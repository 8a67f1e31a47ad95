use Rattle.std.proofs.Common.{None, replicate, ap, ◌∙◌}
use Rattle.pz_json_text.proofs.Drafts.{nothing_begun}
use Rattle.pz_json_text.proofs.draft.restart.Goals as goal

pub returns-clause-begun : goal.returns-clause-begun
returns-clause-begun c width all wide = nothing_begun width all c.args.texts.now _ c.clear_numbers.new.numbers.items wide c.start-draft.ensures c.clear.ensures.items c.clear-2.ensures.items (c.in_ok-clear_numbers.ensures ∙ ap (λ n. replicate n None) c.len.ensures.count)
