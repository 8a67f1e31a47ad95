use Rattle.std.proofs.Common.{ap, ◌∙◌, map, Vec, Global, ℕ}
use Rattle.std.specs.Ordering.{nat_cmp}
use Rattle.std.specs.Cmp.Lexicographic.{slice_cmp}
use Rattle.pz_record.specs.CellNames.{with_name}
use Rattle.pz_record.proofs.Sets.{insert_seen}
use Rattle.pz_entries.proofs.names.insert.Goals as goal

pub returns : goal.returns
unfolding with_name
returns c =
    let items = λ (v : Vec ℕ Global). v.items in
    ap (map items) c.in_ok-insert.ensures.keys ∙ insert_seen items (slice_cmp nat_cmp) c.args.names.now.keys c.args.name
