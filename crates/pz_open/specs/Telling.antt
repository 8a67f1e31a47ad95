-- What a chain shows, as items.
use Rattle.std.specs.Prelude.{◌≡◌, ℕ, ◌+◌, Bool, [], ◌++◌, length, Option, Some, None, Result, Ok, Err, if◌then◌else◌}
use Rattle.pz_case.specs.declared.item.Stop.{Stop}
use Rattle.pz_session.specs.Chain.{Chain, ticks}
use Rattle.pz_session.specs.Board.{State, tick_link}
use Rattle.pz_open.specs.declared.telling.Told.{Told}
use Rattle.pz_open.specs.Opened.{frame_items}

-- where a chain ends: at a state, or by a stop
abbrev pub end_of : Option Stop → State → Result State Stop
end_of None state = Ok state
end_of (Some stop) state = Err stop

-- what is left of a chain behind a link
abbrev pub chain_from : Bool → ℕ → State → Chain State
chain_from goes_on allowed state = if goes_on then ticks tick_link allowed state else record { shown = []; after = Ok state }

-- what a chain shows was told, and where it ended
pub record IsTold (before : Told) (chain : Chain State) (after : Told) (stop : Option Stop) (state : State) : Type 0 where
  pub items : after.items.items ≡ before.items.items ++ frame_items before.frames before.taken chain.shown
  pub frames : after.frames ≡ before.frames + length chain.shown
  pub taken : after.taken ≡ before.taken
  pub end : chain.after ≡ end_of stop state
