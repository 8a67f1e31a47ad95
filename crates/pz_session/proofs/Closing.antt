-- A session that is played closes once, behind its frames.
use Rattle.pz_session.proofs.Common.{◌≡◌, ℕ, ◌+◌, List, [], ◌∷◌, ◌++◌, map, Option, Some, option_to_list, Result, Ok, Err, refl, ap, Input, Frame, Item, Stop, PlanState, follow, ticks, Links, Played, play_from, going_on, after_chain, ticks_after, frames_as_items, items_from, board_links, start_link, state_of, played_items, items_of_plan, Stopped, Refused, MOST_TICKS}
use Rattle.pz_case.specs.declared.item.Item.TheVariants as item
use Rattle.pz_case.specs.declared.item.Refusal.{Refusal}
use Rattle.pz_case.specs.declared.item.Verdict.{Verdict}

abbrev Closes : Played → Type 0
Closes later = (end : Verdict) × (later.close ≡ Some end)

chain_closes : {S : Type 0} (links : Links S) (later : S → Played) (end : Result S Stop) → ((state : S) → Closes (later state)) → Closes (after_chain links later end)
chain_closes links later (Err stop) h = (Stopped stop, refl)
chain_closes links later (Ok state) h = h (links.settled state)

played_closes : {S : Type 0} (links : Links S) (taken : ℕ) (inputs : List Input) (state : S) → Closes (play_from links taken inputs state)
unfolding play_from
played_closes links taken [] state = (links.verdict state, refl)
played_closes links taken (input ∷ inputs) state =
    chain_closes links (play_from links (taken + 1) inputs) (follow (ticks links.ticked (ticks_after input)) (links.begun input state)).after (played_closes links (taken + 1) inputs)

abbrev ClosesOnce : List Item → Type 0
ClosesOnce items = (frames : List (ℕ × Frame)) × ((end : Verdict) × (items ≡ frames_as_items 0 frames ++ item.Close end ∷ []))

items_close : (later : Played) → Closes later → ClosesOnce (items_from 0 later)
unfolding items_from
items_close later h = (later.shown, (h.0, ap (λ (o : Option Verdict). frames_as_items 0 later.shown ++ map item.Close (option_to_list o)) h.1))

pub plan_closes : (plan : Result PlanState Refusal) → ClosesOnce (items_of_plan plan)
unfolding items_of_plan played_items frames_as_items
plan_closes (Err refusal) = ([], (Refused refusal, refl))
plan_closes (Ok plan) =
    let chain = follow (ticks board_links.ticked MOST_TICKS) (Ok (start_link (state_of plan))) in
    let later = play_from board_links 0 plan.inputs in
    items_close (going_on board_links 0 later chain) (chain_closes board_links later chain.after (played_closes board_links 0 plan.inputs))
