use Rattle.pz_sheet.proofs.Common.{flag}
use Rattle.pz_sheet.proofs.HeadingLemmas.{heads_somewhere, not_apart}
use Rattle.pz_sheet.proofs.Sheet.may_head_in.Goals as goal

pub returns : goal.returns
returns g c = λ cells are asks hold.
    let there = heads_somewhere _ _ _ _ _ _ c.self.invariant.stored cells asks.layer asks.dir (rw (← c.self.view_is) at are) (rw (← c.self.view_is) at hold) asks.asks in
    not_apart c.is_disjoint.result c.args.asked.now c.words.result.now (flag asks.layer asks.dir) c.is_disjoint.ensures asks.among (rw (c.words.ensures.words, c.whole.ensures) there)
