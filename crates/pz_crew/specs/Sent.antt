-- What workers send of the sessions of a job.
use Rattle.std.specs.Prelude.{ℕ, List, [], ◌∷◌, ◌++◌, map}
use Rattle.pz_crew.specs.Pieces.{pieces_at}
use Rattle.pz_crew.specs.declared.lane.End.TheVariants.{Finished}
use Rattle.pz_crew.specs.declared.lane.Message.{Message}
use Rattle.pz_crew.specs.declared.lane.Message.TheVariants as messages

-- the messages that one session makes
abbrev pub messages_of : {T : Type 0} → ℕ → List T → List (Message T)
messages_of number pieces = map (messages.Piece number) pieces

-- the messages of the sessions of these numbers, one session after the other
abbrev pub messages_for : {T : Type 0} → List (List T) → List ℕ → List (Message T)
messages_for sessions [] = []
messages_for sessions (number ∷ later) = messages_of number (pieces_at sessions number) ++ messages_for sessions later

-- all that a worker sends if it claimed these numbers and ends Finished
abbrev pub sent_for : {T : Type 0} → List (List T) → List ℕ → List (Message T)
sent_for sessions numbers = messages_for sessions numbers ++ messages.Last Finished ∷ []
