-- What is left of a session in play.
use Rattle.std.specs.Prelude.{ℕ, ◌+◌, ◌*◌, ◌-◌, List, [], ◌++◌, drop, length, None, option_to_list, Result, Bool, true, false, nat_lt, is_none, ◌&&◌, if◌then◌else◌}
use Rattle.pz_session.specs.declared.chain.TheConstants.{MOST_TICKS}
use Rattle.pz_case.specs.declared.item.Verdict.TheVariants.{Stopped}
use Rattle.pz_case.specs.declared.item.Item.{Item}
use Rattle.pz_session.specs.declared.chain.Frame.{Frame}
use Rattle.pz_case.specs.declared.item.Stop.{Stop}
use Rattle.pz_record.specs.declared.input.Input.{Input}
use Rattle.pz_session.specs.declared.player.Phase.{Phase}
use Rattle.pz_session.specs.declared.player.Phase.TheVariants as phase
use Rattle.pz_session.specs.declared.player.Player.{Player}
use Rattle.pz_session.specs.Chain.{Link, ticks, follow}
use Rattle.pz_session.specs.Session.{Played, play_from, closing, going_on, showing, items_from}
use Rattle.pz_session.specs.Board.{State, board_links, with_past, tick_link}

-- what is still to come in a phase
unfoldable pub to_come : Phase → ℕ → List Input → State → Played
to_come phase.Between taken inputs state = play_from board_links taken inputs state
to_come (phase.Ticking n) taken inputs state = going_on board_links taken (play_from board_links taken inputs) (ticks tick_link n state)
to_come (phase.Stopped stop) taken inputs state = closing (Stopped stop)
to_come phase.Closed taken inputs state = record { shown = []; close = None }

-- the items that are left: the pending frames and what is to come; nothing after the close
unfoldable pub left_in : Phase → ℕ → List Frame → ℕ → List Input → State → List Item
left_in phase number frames taken inputs state = items_from number (showing taken frames (to_come phase taken inputs state))

abbrev pub pending : Player → List Frame
pending player = option_to_list player.first ++ option_to_list player.second

abbrev pub items_left : Player → List Item
items_left player = left_in player.phase player.number (pending player) player.taken (drop player.taken player.inputs) player.board

-- bounds on the links that are left: in the chain, and in the session
abbrev pub rank : Phase → ℕ
rank (phase.Ticking n) = n + 1
rank _ = 0

abbrev pub work : Player → ℕ
work player = (length player.inputs - player.taken) * (MOST_TICKS + 2) + rank player.phase

-- without pending frames, a link has to be played before the next item
abbrev pub is_waiting_in : Phase → ℕ → List Input → Bool
is_waiting_in phase.Between taken inputs = nat_lt taken (length inputs)
is_waiting_in (phase.Ticking n) taken inputs = true
is_waiting_in _ taken inputs = false

abbrev pub is_waiting : Player → Bool
is_waiting player = is_none player.first && is_none player.second && is_waiting_in player.phase player.taken player.inputs

-- what comes after a link's frames
abbrev pub to_follow : Bool → ℕ → ℕ → List Input → State → Played
to_follow goes_on n taken inputs state =
    if goes_on then going_on board_links taken (play_from board_links taken inputs) (ticks tick_link n state)
    else play_from board_links taken inputs (with_past state)

-- what is left from this link on; at most n ticks may run after it
abbrev pub left_with : ℕ → ℕ → ℕ → List Input → Result (Link State) Stop → List Item
left_with n number taken inputs link =
    items_from number (going_on board_links taken (play_from board_links taken inputs) (follow (ticks tick_link n) link))
