use Rattle.std.proofs.Common.{option_to_list}
use Rattle.pz_open.proofs.Chains.{two_told}
use Rattle.pz_open.proofs.telling.Told.add_shown.Goals as goal

pub returns-clause-items : goal.returns-clause-items
returns-clause-items c =
    two_told c.args.self.now c.add_if.new.self c.add_if-2.new.self (option_to_list c.args.shown.first) (option_to_list c.args.shown.second)
    c.in_ok-add_if.ensures.items c.in_ok-add_if.ensures.frames c.add_if.ensures.taken c.in_ok-add_if-2.ensures.items
