use Rattle.pz_sheet.proofs.Common.{map, get_or, ap, Cell, pieces_of_cell, pushed_place}
use Rattle.pz_sheet.proofs.PushLemmas.{AreTurned, lawful_turned, cell_turned, rest_pushed, none_pushed}
use Rattle.pz_sheet.proofs.pushing.push_cell.Goals as goal

pub loop-player-preserved : goal.loop-player-preserved
loop-player-preserved g c =
    let layers = c.args.layers.now.layers in
    let was = c.loop-player.cell in
    let is = c.turn.new.self in
    let player = get_or c.args.players.now c.loop-player.player-index 0 in
    let turned : AreTurned layers was.objects was.movement is.objects is.movement player c.args.dir = record {
      lawful = c.loop-player.invariant.sound;
      turned = c.turn.ensures.turned;
      same_objects = λ absent. ap (λ (cell : Cell g.row.N). cell.objects) (c.turn.ensures.kept absent);
      same_movement = λ absent. ap (λ (cell : Cell g.row.N). cell.movement) (c.turn.ensures.kept absent);
    } in
    let see = pieces_of_cell c.args.layers.now in
    let cell = cell_turned c.args.layers.now.depth layers was.objects was.movement is.objects is.movement player c.args.dir turned in
    record {
      sound = lawful_turned layers was.objects was.movement is.objects is.movement player c.args.dir turned;
      rest = rest_pushed c.args.players.now c.loop-player.player-index 0 c.args.dir (see was) (see is) (map (pushed_place c.args.players.now c.args.dir) (see c.args.cell.now)) c.loop-player-test.true cell c.loop-player.invariant.rest;
    }

pub returns-clause-cell : goal.returns-clause-cell
returns-clause-cell g c =
    let see = pieces_of_cell c.args.layers.now in
    none_pushed c.args.players.now c.loop-player.player-index c.args.dir (see c.loop-player.cell) (map (pushed_place c.args.players.now c.args.dir) (see c.args.cell.now)) c.loop-player-test.false c.loop-player.invariant.rest
