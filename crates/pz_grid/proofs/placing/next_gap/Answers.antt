use Rattle.pz_grid.proofs.Common.{arith, common_steps, ◌+◌, ◌-◌}
use Rattle.pz_grid.proofs.StartLemmas.{axis_back}
use Rattle.pz_grid.proofs.placing.next_gap.Goals as goal

pub returns-in-Some-clause-next : goal.returns-in-Some-clause-next
returns-in-Some-clause-next g c =
    let found = c.in-Some.ensures in
    let back = axis_back c.args.walk in (
      omega (arith, found.0),
      grind (arith, back, found.1),
      grind (arith, common_steps, back, c.in-Ahead.is, found.0, found.1, found.2),
      λ gap low high. grind (arith, common_steps, back, c.in-Ahead.is, found.1, low, high, found.3 (c.args.start + (c.args.at + gap))),
    )

pub returns-in-None-clause-next : goal.returns-in-None-clause-next
returns-in-None-clause-next g c = λ gap low high. grind (arith, common_steps, axis_back c.args.walk, c.in-Ahead.is, low, high, c.in-None.ensures (c.args.start + (c.args.at + gap)))

pub returns-in-Some-last_in_line-clause-next : goal.returns-in-Some-last_in_line-clause-next
returns-in-Some-last_in_line-clause-next g c =
    let found = c.in-Some-last_in_line.ensures in
    let back = axis_back c.args.walk in (
      omega (arith, found.0),
      grind (arith, back, found.0),
      grind (arith, common_steps, back, c.in-Back.is, found.0, found.1),
      λ gap low high. grind (arith, common_steps, back, c.in-Back.is, found.0, low, high, found.2 (c.args.start - (c.args.at + gap))),
    )

pub returns-in-None-last_in_line-clause-next : goal.returns-in-None-last_in_line-clause-next
returns-in-None-last_in_line-clause-next g c = λ gap low high. grind (arith, common_steps, axis_back c.args.walk, c.in-Back.is, low, high, c.in-None-last_in_line.ensures (c.args.start - (c.args.at + gap)))
