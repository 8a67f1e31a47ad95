-- The writer of the texts of a step's levels.
use Rattle.std.specs.Prelude.{◌≡◌}
use Rattle.pz_level_text.specs.Labels.{WriterView}
use Rattle.pz_session.specs.Board.{State}

-- it writes for the session's game, with the cells in the session's order
abbrev pub IsWriterOf : State → WriterView → Type 0
IsWriterOf state texts = (texts.table.game ≡ state.game) × (texts.order ≡ state.order)
