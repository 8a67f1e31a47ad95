use Rattle.std.proofs.Common.{◌+◌, ◌*◌, arith}
use Rattle.pz_planes.proofs.MarkLemmas.{exact}
use Rattle.pz_planes.proofs.planes.LinePlanes.mark.Goals as goal

pub returns-clause-exact : goal.returns-clause-exact
returns-clause-exact c line object within = exact c.args.self.now line object _ (grind (arith, c.loop-object.invariant.marked line object within, c.self.view_is, c.loop-object.auto.object-end, c.loop-object-test.false)) (c.loop-object.invariant.fits (object * c.args.self.now.count + line))
