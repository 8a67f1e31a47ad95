use Rattle.pz_session.proofs.Common.{[], ap, IsOfGame, All-same, All-nil, WriterView}
use Rattle.pz_session.proofs.BoardLemmas.{loaded_of_game}
use Rattle.pz_session.proofs.board.Board.load.Goals as goal

pub invariant_of-result : goal.invariant_of-result
invariant_of-result c = (
  record {
    program = c.requires.program_of;
    entry = c.requires.within;
    before = tt;
    level = loaded_of_game c.args.game.now c.args.entry c.in-Ok.level.grid c.in-Ok.ensures.level;
    target = loaded_of_game c.args.game.now c.args.entry c.in-Ok.target.grid c.in-Ok.ensures.target;
    past = All-same (IsOfGame c.args.game.now) c.new.result [] c.new.ensures (All-nil (IsOfGame c.args.game.now));
  },
  (ap (λ (t : WriterView). t.table.game) c.new-in-Ok.ensures, ap (λ (t : WriterView). t.order) c.new-in-Ok.ensures),
  tt,
  tt,
)
