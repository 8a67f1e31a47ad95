use Rattle.std.proofs.Common.{◌≤◌, ◌+◌, length, arith, rules}
use Rattle.pz_names.specs.Denotation.{known_at}
use Rattle.pz_names.proofs.RoundLemmas.{none-below, still-below, more-above, all-found}
use Rattle.pz_names.proofs.denotation.fill.Goals as goal

pub loop-rank-init : goal.loop-rank-init
loop-rank-init c = record {
  count = c.requires.count;
  low = λ k d e. let none = c.requires.empty k in cc;
  high = none-below c.args.meanings.now (known_at c.args.known.now);
}

pub returns-then-not-branch : goal.returns-then-not-branch
returns-then-not-branch c =
    let i = c.loop-rank.invariant in
    all-found c.args.meanings.now c.requires.inside (known_at c.loop-rank.known) (known_at c.round.new.known) c.in_ok-round.field-0 c.in_ok-round.ensures i.low (search rules)

pub loop-rank-preserved : goal.loop-rank-preserved
loop-rank-preserved c =
    let i = c.loop-rank.invariant in
    let room : c.loop-rank._rank + 1 ≤ length c.args.meanings.now = omega (arith, c.loop-rank-test.true) in
    record {
      count = omega (arith, i.count, c.round.auto.known);
      low = still-below c.args.meanings.now c.requires.inside (known_at c.loop-rank.known) (known_at c.round.new.known) c.in_ok-round.field-0 c.in_ok-round.ensures i.low;
      high = more-above c.args.meanings.now c.requires.inside (known_at c.loop-rank.known) (known_at c.round.new.known) c.in_ok-round.field-0 c.in_ok-round.ensures i.low c.loop-rank._rank room i.high;
    }
