use Rattle.pz_level_text.proofs.Common.{◌≡◌, rules}
use Rattle.pz_level_text.proofs.Joining.{joins}
use Rattle.pz_level_text.proofs.set_text.join.Goals as goal

pub returns : goal.returns
returns c =
    let all : c.in_ok-names.names.items ≡ c.args.names.keys = search rules in
    rw (← all, ← joins c.in_ok-names.names.items) (search rules)
