use Rattle.std.proofs.Common.{arith}
use Rattle.pz_store.proofs.Digesting.{replaced_so}
use Rattle.pz_store.proofs.digest.replaced.Goals as goal

pub returns : goal.returns
returns c = replaced_so c.args.digest c.args.old c.args.new c.args.power (omega (arith, c.ranges.old))
