-- What contracts see of the two ends of a lane, and of the token that names all that was sent on it.
use Rattle.std.specs.Prelude.{ℕ, List}
use denote.RawPtr.{Ptr}
use Rattle.rtrb.specs.Shared.{Names}
use Rattle.pz_crew.specs.declared.lane.Message.{Message}

-- which lane it is: no two that are there at once have the same
pub record LaneId : Type 0 where
  pub words : Ptr
  pub slots : Ptr
  pub names : Names

-- the end that sends: its lane, how many messages the lane holds at once, and what was sent
pub record Sends (T : Type 0) : Type 0 where
  pub lane : LaneId
  pub capacity : ℕ
  pub sent : List (Message T)

-- the end that takes: its lane, what was taken, and the messages after that which are known to be there
pub record Takes (T : Type 0) : Type 0 where
  pub lane : LaneId
  pub taken : List (Message T)
  pub known : List (Message T)

-- the token: which lane, and all that was sent on it
pub record All (T : Type 0) : Type 0 where
  pub lane : LaneId
  pub sent : List (Message T)
