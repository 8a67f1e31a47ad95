-- What a worker hands back.
use Rattle.std.specs.Prelude.{◌≡◌, ◌≢◌, ◌<◌, ℕ, List, [], ◌∷◌, ◌++◌, All, take, Some, IfSome, IsSome}
use Rattle.pz_claims.specs.Holders.{Numbers}
use Rattle.pz_crew.specs.Lane.{LaneId}
use Rattle.pz_crew.specs.Sent.{messages_for, sent_for}
use Rattle.pz_crew.specs.declared.lane.End.{End}
use Rattle.pz_crew.specs.declared.lane.End.TheVariants.{Finished}
use Rattle.pz_crew.specs.declared.lane.Message.{Message}
use Rattle.pz_crew.specs.declared.lane.Message.TheVariants.{Last}
use Rattle.pz_crew.specs.declared.work.Done.{Done}
use Rattle.pz_crew.specs.declared.work.Worked.{Worked}

-- what a worker that is done hands back, if its end of the lane stands for the token: either names all that was sent
abbrev pub handed_back : {T : Type 0} → Done T → Worked T
handed_back done = record { end = done.end; ended = done.ended; sent = Some (record { lane = done.sender.lane; sent = done.sender.sent }) }

-- some first messages of sessions with numbers below n, and then the last message with its end
pub record IsBroken {T : Type 0} (n : ℕ) (sessions : List (List T)) (end : End) (sent : List (Message T)) : Type 0 where
  pub numbers : List ℕ
  pub below : All (λ number. number < n) numbers
  pub count : ℕ
  pub sends : sent ≡ take count (messages_for sessions numbers) ++ Last end ∷ []

-- the token is of the lane, and the seat has ended exactly if the worker ended Finished;
-- then it sent the items of the numbers that its seat holds, in the order claimed, and the last message; else it broke off
pub record IsWorked {T : Type 0} (claims : Numbers) (sessions : List (List T)) (lane : LaneId) (worked : Worked T) : Type 0 where
  pub token : IfSome worked.sent (λ all. all.lane ≡ lane)
  pub seat : worked.end ≡ Finished → IsSome worked.ended
  pub finished : IsSome worked.ended → worked.end ≡ Finished
  pub sends : IfSome worked.ended (λ ended. (ended.of ≡ claims) × IfSome worked.sent (λ all. all.sent ≡ sent_for sessions ended.numbers))
  pub breaks : worked.end ≢ Finished → IfSome worked.sent (λ all. IsBroken claims.total sessions worked.end all.sent)
