use Rattle.std.proofs.Common.{rules, nat_le}
use Rattle.std.proofs.lemmas.Fn.{filter_same}
use Rattle.pz_open.proofs.opened.forget_behind.Goals as goal

pub returns : goal.returns
returns c = filter_same _ (λ k. nat_le k.count c.args.count) _ (λ x b f called. (search rules, search rules)) _ _ c.retain.ensures.filtered
