use Rattle.pz_level_text.proofs.Common.{ap, ◌∙◌, map, Bor, List, ℕ, with_name, insert_seen}
use Rattle.std.specs.Ordering.{nat_cmp}
use Rattle.std.specs.Cmp.Lexicographic.{slice_cmp}
use Rattle.pz_level_text.proofs.set_text.insert.Goals as goal

pub returns : goal.returns
unfolding with_name
returns c =
    let f = λ (n : Bor (List ℕ)). n.now in
    ap (map f) c.in_ok-insert.ensures.keys ∙ insert_seen f (slice_cmp nat_cmp) c.args.names.now.keys c.args.name
