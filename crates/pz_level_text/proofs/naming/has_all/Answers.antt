use Rattle.pz_level_text.proofs.Common.{ap, ◌∙◌, Vec, Global, ℕ, list_all, member, has_name, chosen_from, all_seen}
use Rattle.pz_level_text.proofs.naming.has_all.Goals as goal

pub returns : goal.returns
returns c =
    let test = has_name (chosen_from (member c.args.standing.now) 0 c.args.objects.now) in
    c.has_each.ensures ∙ all_seen (λ (v : Vec ℕ Global). v.items) test c.names.result.now ∙ ap (list_all test) c.names.ensures
