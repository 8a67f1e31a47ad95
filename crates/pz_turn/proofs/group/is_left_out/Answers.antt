use Rattle.pz_turn.proofs.Segments.{left_out_pass, segment_of_group}
use Rattle.pz_turn.proofs.Common.{not-true}
use Rattle.pz_program.specs.Segments.{instances_in}
use Rattle.pz_turn.proofs.group.is_left_out.Goals as goal

pub returns-then-segment : goal.returns-then-segment
returns-then-segment c none =
    let grid = c.args.level.now.grid in
    let segment = c.args.segment.now in
    left_out_pass grid segment.asked (instances_in c.args.group.now segment) c.width.ensures.lawful (segment_of_group grid.layers c.args.group.now segment c.requires.of_game)
    (c.requires.of_group.told c.if-segment.true) (c.may_head_in.ensures (not-true c.may_head_in.result none))
