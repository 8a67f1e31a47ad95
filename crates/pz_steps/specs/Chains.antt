-- What a call leaves that plays links.
use Rattle.std.specs.Prelude.{◌≡◌, ℕ, Bool, Option, Some, None, Result, Ok, Err, if◌then◌else◌}
use Rattle.pz_case.specs.declared.item.Stop.{Stop}
use Rattle.pz_session.specs.declared.chain.PlayFault.{PlayFault}
use Rattle.pz_session.specs.declared.chain.Shown.{Shown}
use Rattle.pz_session.specs.Chain.{GivesLink, Link, ticks}
use Rattle.pz_session.specs.Board.{State, tick_link}

-- what a link leaves: the state, and whether one more tick follows; nothing if the session stops there
abbrev pub left_of : Result (Link State) Stop → Option (State × Bool)
left_of (Err stop) = None
left_of (Ok link) = Some (link.after, link.goes_on)

abbrev pub leaving : State → Option Bool → Option (State × Bool)
leaving state None = None
leaving state (Some goes_on) = Some (state, goes_on)

-- an answer tells whether one more tick follows the link that was played, or that the session stops there
abbrev pub IsLeft : Result Shown PlayFault → Option Bool → Type 0
IsLeft outcome answer = (link : Result (Link State) Stop) (state : State) → GivesLink link state outcome → left_of link ≡ leaving state answer

-- the end of a chain from a state behind a link
abbrev pub chain_after : Bool → ℕ → State → Result State Stop
chain_after goes_on allowed state = if goes_on then (ticks tick_link allowed state).after else Ok state

-- a session that stands somewhere, unless it stopped
abbrev pub left_by : Bool → State → Option State
left_by whole state = if whole then Some state else None
