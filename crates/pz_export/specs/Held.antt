-- What a host's place for its open sessions owns.
use Rattle.std.specs.Prelude.{Bool, true, false, List, Option, Some, None, [], ◌∷◌}
use Rattle.std.specs.Borrow.{MutBor}
use base.Fml.{Fml, ftrue, ffalse}
use mir.Syntax.{static}
use denote.RawPtr.{Ptr, block_ptr, null_ptr, ptr_val}
use denote.Ref.{MutRef}
use Rattle.pz_open.specs.Opened.{OpenState}
use Rattle.pz_open.specs.contracts.sessions.OpenSessions.{the_row}

-- the borrow of sessions that are never freed, at their address
abbrev pub borrow_of_sessions : Bool → Ptr → Option (MutBor (List (Option OpenState))) → Fml
borrow_of_sessions true at (Some sessions) = (MutRef static [] the_row).own_val sessions (ptr_val at ∷ [])
borrow_of_sessions true at None = ffalse
borrow_of_sessions false null_ptr None = ftrue
borrow_of_sessions false null_ptr (Some sessions) = ffalse
borrow_of_sessions false (block_ptr block offset) value = ffalse

-- the sessions that a place holds
abbrev pub held_in : Option (MutBor (List (Option OpenState))) → List (Option OpenState)
held_in None = []
held_in (Some sessions) = sessions.now
