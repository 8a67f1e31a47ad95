use Rattle.std.proofs.Common.{sym, subst}
use Rattle.pz_plan.specs.Shape.{AreShort}
use Rattle.pz_plan.proofs.Shaping.{short-sides}
use Rattle.pz_plan.proofs.planning.read_plan.Goals as goal

pub rows_spelled_out-requires : goal.rows_spelled_out-requires
rows_spelled_out-requires c = subst AreShort (sym c.items.ensures) (short-sides c.args.table.now c.args.is_late c.args.rule.now (sym c.in_default.ensures)).0

pub rows_spelled_out-requires-2 : goal.rows_spelled_out-requires-2
rows_spelled_out-requires-2 c = subst AreShort (sym c.items-2.ensures) (short-sides c.args.table.now c.args.is_late c.args.rule.now (sym c.in_default.ensures)).1
