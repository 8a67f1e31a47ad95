use Rattle.std.proofs.Common.{◌≡◌, true, false, ◌∙◌, sym, ap}
use Rattle.std.proofs.lemmas.Result.{IfOk-weaker, IfErr-weaker}
use Rattle.std.proofs.lemmas.Option.{slice_get_within}
use Rattle.pz_trace.specs.declared.block_play.Spot.{Spot}
use Rattle.pz_trace.specs.Firings.{stop_sequence}
use Rattle.pz_trace.specs.FiringPlay.{goes_round, sequence_from, setting_of}
use Rattle.pz_trace.proofs.Going.{pass_goes_on, pass_stops, group_goes_on, round_goes_on, round_stops, fewer_behind_group}
use Rattle.pz_trace.proofs.block_play.BlockPlay.behind_pass.Goals as goal

pub returns-then-self-clause-left : goal.returns-then-self-clause-left
returns-then-self-clause-left c =
    let play = c.args.self.now in
    IfOk-weaker c.next_pass.result _ _ (λ next is. pass_goes_on (setting_of play) play.spot play.level.grid c.args.group.now c.requires.group c.requires.end next is.0 is.1 c.if-self.true) c.next_pass.ensures.next

pub returns-then-self-clause-fault : goal.returns-then-self-clause-fault
returns-then-self-clause-fault c =
    let play = c.args.self.now in
    IfErr-weaker c.next_pass.result _ _ (λ fault is. pass_stops (setting_of play) play.spot play.level.grid c.args.group.now c.requires.group c.requires.end is.1 c.if-self.true ∙ ap stop_sequence (sym is.0)) c.next_pass.ensures.fault

pub returns-then-goes_round-clause-left : goal.returns-then-goes_round-clause-left
returns-then-goes_round-clause-left c =
    let play = c.args.self.now in
    let round : goes_round (setting_of play) play.spot ≡ true = sym c.goes_round.ensures ∙ c.if-goes_round.true in
    IfOk-weaker c.next_round.result _ _ (λ next is. round_goes_on (setting_of play) play.spot play.level.grid c.args.group.now c.requires.group c.requires.end next is.0 is.1 c.if-self.false round) c.next_round.ensures.next

pub returns-then-goes_round-clause-fault : goal.returns-then-goes_round-clause-fault
returns-then-goes_round-clause-fault c =
    let play = c.args.self.now in
    let round : goes_round (setting_of play) play.spot ≡ true = sym c.goes_round.ensures ∙ c.if-goes_round.true in
    IfErr-weaker c.next_round.result _ _ (λ fault is. round_stops (setting_of play) play.spot play.level.grid c.args.group.now c.requires.group c.requires.end is.1 c.if-self.false round ∙ ap stop_sequence (sym is.0)) c.next_round.ensures.fault

pub returns-else-goes_round-clause-left : goal.returns-else-goes_round-clause-left
returns-else-goes_round-clause-left c =
    let play = c.args.self.now in
    let stays : goes_round (setting_of play) play.spot ≡ false = sym c.goes_round.ensures ∙ c.if-goes_round.false in
    ap (λ (spot : Spot). sequence_from (setting_of play) spot play.level.grid) c.next_group.ensures
    ∙ group_goes_on (setting_of play) play.spot play.level.grid c.args.group.now c.requires.group c.requires.end c.if-self.false stays

pub returns-else-goes_round-clause-fewer : goal.returns-else-goes_round-clause-fewer
returns-else-goes_round-clause-fewer c =
    let play = c.args.self.now in
    let within = slice_get_within play.groups.now play.spot.moment.group c.args.group.now c.requires.group in
    rw c.next_group.ensures (fewer_behind_group (setting_of play) play.spot within c.if-self.false)
