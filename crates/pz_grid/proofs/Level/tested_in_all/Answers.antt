use Rattle.pz_grid.proofs.Common.{arith, line_count, line_length, places, searches_line, starts_in, sum_more, ◌≡◌}
use Rattle.pz_grid.proofs.CountLemmas.{length_low}
use Rattle.pz_grid.proofs.SkipLemmas.{tested_bounded, tested_more}
use Rattle.pz_grid.proofs.Level.tested_in_all.Goals as goal

pub loop-line-preserved : goal.loop-line-preserved
loop-line-preserved c =
    let state = c.args.self.now in
    let i = c.loop-line.invariant in
    record {
      high = tested_more (searches_line state c.args.row.now c.args.dir) c.loop-line.line (line_length state.grid c.args.dir) c.loop-line.tested _ i.high (omega (arith, c.tested.ensures.high));
      low = omega (arith, i.low, c.tested.ensures.low, sum_more (starts_in c.args.dir (places state.grid c.args.row.now c.args.dir) (line_length state.grid c.args.dir)) c.loop-line.line);
      few = omega (arith, i.few, c.tested.ensures.short, length_low state.grid c.args.dir c.line_count-line-end.ensures.lawful);
    }

pub returns-clause-high : goal.returns-clause-high
returns-clause-high c =
    let last : c.loop-line.line ≡ line_count c.args.self.now.grid c.args.dir = omega arith in
    tested_bounded c.args.self.now c.args.row.now c.args.dir c.loop-line.tested (rw last at c.loop-line.invariant.high)
