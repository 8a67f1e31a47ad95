-- Where a session stands between two inputs, apart from its plan.
use Rattle.std.specs.Prelude.{ℕ, Bool, List, None}
use Rattle.pz_game.specs.declared.game.GameParts.{GameParts}
use Rattle.pz_program.specs.declared.instance.Program.{Program}
use Rattle.pz_sheet.specs.Grid.{Grid}
use Rattle.pz_record.specs.declared.order.Order.{Order}
use Rattle.pz_session.specs.Board.{State}

-- the entry of LEVELS that is played, its level, the target of a restart, the past, and whether the last level was won
pub record Stood : Type 0 where
  pub entry : ℕ
  pub level : Grid
  pub target : Grid
  pub past : List Grid
  pub is_over : Bool

-- a session of this game, with this order and recorded level, that stands there
abbrev pub state_at : GameParts → Program → Order → List (List (List ℕ)) → Stood → State
state_at game program order recorded stood = record {
  game = game;
  program = program;
  order = order;
  recorded = recorded;
  entry = stood.entry;
  level = stood.level;
  target = stood.target;
  past = stood.past;
  before = None;
  is_over = stood.is_over;
}

-- where a session stands
abbrev pub stood_in : State → Stood
stood_in state = record { entry = state.entry; level = state.level; target = state.target; past = state.past; is_over = state.is_over }
