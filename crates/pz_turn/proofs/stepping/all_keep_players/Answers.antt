use Rattle.pz_turn.proofs.Common.{[], arith, common_steps}
use Rattle.std.proofs.lemmas.Slice.Zip.{length-zip, get_or-zip}
use Rattle.pz_turn.proofs.stepping.all_keep_players.Goals as goal

pub returns-then-not-keeps_player : goal.returns-then-not-keeps_player
returns-then-not-keeps_player c = grind (arith, common_steps, length-zip c.args.before.now.grid.cells c.args.after.now.grid.cells, get_or-zip c.args.before.now.grid.cells c.args.after.now.grid.cells c.loop-index.index ([], []))

pub loop-index-preserved : goal.loop-index-preserved
loop-index-preserved c = grind (arith, common_steps, length-zip c.args.before.now.grid.cells c.args.after.now.grid.cells, get_or-zip c.args.before.now.grid.cells c.args.after.now.grid.cells c.loop-index.index ([], []))

pub returns : goal.returns
returns c = grind (arith, common_steps, length-zip c.args.before.now.grid.cells c.args.after.now.grid.cells, get_or-zip c.args.before.now.grid.cells c.args.after.now.grid.cells c.loop-index.index ([], []))
