use Rattle.std.proofs.Common.{refl, sym, ◌∙◌}
use Rattle.std.proofs.lemmas.Option.{slice_get_read}
use Rattle.std.specs.Prelude.{slice_get}
use Rattle.pz_trace.proofs.Going.{none_is}
use Rattle.pz_trace.proofs.block_play.BlockPlay.advance.Goals as goal

pub behind_pass-requires-clause-group : goal.behind_pass-requires-clause-group
behind_pass-requires-clause-group c =
    let none = none_is c.in_ok-firing.firing (sym c.is_some.ensures ∙ c.if-is_some.false) in
    let setting = c.next_in_pass.ensures.setting ∙ c.passes.invariant.setting in
    let found = c.in-Some.ensures.lookup in
    (λ i. slice_get (setting i).groups (c.in_ok-firing.ensures.group none i)) ∙ slice_get_read c.args.self.now.groups.now _ c.passes.self.spot.moment.group c.in-Some.group.now refl found.3.0 found.1
