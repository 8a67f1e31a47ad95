use Rattle.std.proofs.Common.{◌≡◌, ◌<◌, length, true, rules, arith, below_more}
use Rattle.std.specs.List.{HoldsAt, slice_index_or}
use Rattle.std.proofs.lemmas.List.Elements.{at_read}
use Rattle.pz_game.specs.declared.rule_line.RuleLine.{RuleLine}
use Rattle.pz_job.specs.SameRules.{IsSameLine}
use Rattle.pz_job.proofs.same.same_lines.Goals as goal

pub loop-number-preserved : goal.loop-number-preserved
loop-number-preserved c =
    let number = c.loop-number.number in
    let lines = c.rules-lines.result.now in
    let others = c.rules-others.result.now in
    let names = c.args.game.now.names in
    let more = c.args.other.now.names in
    let line = c.index-lines-number.result in
    let other = c.index-others-number.result in
    let count = c.loop-number.invariant.count in
    let same : c.same_line.result ≡ true = search rules in
    let within : number < length others = omega arith in
    let here = at_read lines (λ l. HoldsAt (IsSameLine names more l) others number) number line c.loop-number-test.true c.index-lines-number.is
    (at_read others (IsSameLine names more line) number other within c.index-others-number.is (c.same_line.ensures same)) in
    record {
      count = count;
      each = λ k d e less. below_more (λ n. (d e : RuleLine) → IsSameLine names more (slice_index_or lines n d) (slice_index_or others n e)) number
          (λ n below d e. c.loop-number.invariant.each n d e below) here k less d e;
    }
