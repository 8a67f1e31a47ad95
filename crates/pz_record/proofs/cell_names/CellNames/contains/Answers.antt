use Rattle.std.proofs.Common.{ap, ◌∙◌, refl, map, Vec, Global, ℕ}
use Rattle.std.specs.Str.{bytes_eq}
use Rattle.pz_record.specs.CellNames.{has_name}
use Rattle.pz_record.proofs.Sets.{any_seen}
use Rattle.pz_record.proofs.cell_names.CellNames.contains.Goals as goal

pub returns : goal.returns
returns c =
    let name = c.args.name.now in
    let items = λ (v : Vec ℕ Global). v.items in
    c.has.ensures ∙ any_seen items (bytes_eq name) (λ v. bytes_eq name v.items) c.deref.result.now (λ v. refl) ∙ ap (λ names. has_name names name) (ap (map items) c.deref.ensures.value ∙ c.self.view_is)
