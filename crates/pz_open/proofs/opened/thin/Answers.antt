use Rattle.std.proofs.Common.{List, sym, subst}
use Rattle.std.specs.Prelude.{All}
use Rattle.pz_open.specs.declared.opened.Kept.{Kept}
use Rattle.pz_open.specs.Kept.{IsKeptOf}
use Rattle.pz_open.proofs.Keeps.{all_left}
use Rattle.pz_open.proofs.opened.thin.Goals as goal

pub returns : goal.returns
returns c = λ plan inputs are.
    let left = c.retain.ensures.filtered in
    subst (λ (others : List Kept). All (IsKeptOf plan inputs) others) (sym left.4) (all_left (IsKeptOf plan inputs) left.0 c.args.kept.now.items are)
