use Rattle.std.proofs.Common.{◌∙◌, sym}
use Rattle.pz_json_text.proofs.KnownCells.{is_new}
use Rattle.pz_describe.proofs.distinct.Distinct.add.Goals as goal

pub push-requires : goal.push-requires
push-requires c = is_new c.args.self.now c.args.text.now (sym c.find.ensures ∙ c.in-None.is)
