-- Chains of links.
use Rattle.std.specs.Prelude.{◌≡◌, ℕ, zero, suc, Bool, List, [], ◌++◌, option_to_list, Result, Ok, Err, if◌then◌else◌}
use Rattle.pz_case.specs.declared.item.Stop.{Stop}
use Rattle.pz_case.specs.declared.item.Stop.TheVariants.{AgainLimit}
use Rattle.pz_session.specs.declared.chain.Frame.{Frame}
use Rattle.pz_session.specs.declared.chain.Shown.{Shown}
use Rattle.pz_session.specs.declared.chain.PlayFault.{PlayFault}
use Rattle.pz_session.specs.declared.chain.PlayFault.TheVariants.{Memory, Stopped}

-- one link: what it shows, the state that it leaves, and whether one more tick follows
pub record Link (S : Type 0) : Type 0 where
  pub shown : List Frame
  pub after : S
  pub goes_on : Bool

-- a chain: what its links show, and the state at its end or the stop
pub record Chain (S : Type 0) : Type 0 where
  pub shown : List Frame
  pub after : Result S Stop

abbrev pub with_frames_before : {S : Type 0} → List Frame → Chain S → Chain S
with_frames_before frames chain = record { shown = frames ++ chain.shown; after = chain.after }

-- a link, and if it goes on, what follows from the state that it leaves
abbrev pub follow : {S : Type 0} → (S → Chain S) → Result (Link S) Stop → Chain S
follow later (Err stop) = record { shown = []; after = Err stop }
follow later (Ok link) = if link.goes_on then with_frames_before link.shown (later link.after) else record { shown = link.shown; after = Ok link.after }

-- play.again-limit: ticks from a state that needs one; at most n may run
abbrev pub ticks : {S : Type 0} → (S → Result (Link S) Stop) → ℕ → S → Chain S
ticks ticked zero state = record { shown = []; after = Err AgainLimit }
ticks ticked (suc n) state = follow (ticks ticked n) (ticked state)

abbrev pub shown_frames : Shown → List Frame
shown_frames shown = option_to_list shown.first ++ option_to_list shown.second

-- a call that leaves `state` answers this link or stop, unless memory was refused
abbrev pub GivesLink : {S : Type 0} → Result (Link S) Stop → S → Result Shown PlayFault → Type 0
GivesLink link state (Ok shown) = link ≡ Ok (record { shown = shown_frames shown; after = state; goes_on = shown.goes_on })
GivesLink link state (Err Memory) = Unit {0}
GivesLink link state (Err (Stopped stop)) = link ≡ Err stop
