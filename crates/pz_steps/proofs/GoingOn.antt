-- Where a session stands after some inputs, its items go on.
use Rattle.std.proofs.Common.{◌≡◌, ℕ, zero, suc, ◌+◌, List, [], ◌∷◌, ◌++◌, map, length, take, drop, min, Option, Some, None, Result, Ok, Err, refl, ap, sym, ◌∙◌, arith, option_to_list}
use Rattle.std.proofs.lemmas.List.{append_assoc}
use Rattle.pz_record.specs.declared.input.Input.{Input}
use Rattle.pz_case.specs.declared.item.Item.TheVariants as item
use Rattle.pz_case.specs.declared.item.Item.{Item}
use Rattle.pz_case.specs.declared.item.Stop.{Stop}
use Rattle.pz_case.specs.Plan.{PlanState}
use Rattle.pz_session.specs.declared.chain.Frame.{Frame}
use Rattle.pz_session.specs.Chain.{Chain}
use Rattle.pz_session.specs.Session.{Played, going_on}
unfoldable use Rattle.pz_session.specs.Session.{items_from, frames_as_items, play_from}
use Rattle.pz_session.specs.Board.{State, board_links}
unfoldable use Rattle.pz_session.specs.Board.{first_link, with_past, start_link, tick_link}
use Rattle.pz_session.specs.Case.{state_of}
unfoldable use Rattle.pz_session.specs.Case.{played_items}
use Rattle.pz_steps.specs.Steps.{after_inputs, and_then, chain_of, settled_after, start_chain}
unfoldable use Rattle.pz_steps.specs.Steps.{standing_after}

abbrev Frames : Type 0
Frames = List (ℕ × Frame)

-- what is shown after these frames
abbrev behind : Frames → Played → Played
behind frames later = record { shown = frames ++ later.shown; close = later.close }

-- the frames that a chain shows, with the number of inputs taken
abbrev shown_at : ℕ → Chain State → Frames
shown_at taken chain = map (λ frame. (taken, frame)) chain.shown

-- a chain that ends leads on to what follows
chain_leads : (taken : ℕ) (later : State → Played) (chain : Chain State) (state : State) → settled_after chain ≡ Some state → going_on board_links taken later chain ≡ behind (shown_at taken chain) (later state)
chain_leads taken later chain state is = ends chain.after is where
  ends : (end : Result State Stop) → (elim end [ Err stop ↦ None | Ok after ↦ Some (with_past after) ]) ≡ Some state → going_on board_links taken later (record { shown = chain.shown; after = end }) ≡ behind (shown_at taken chain) (later state)
  ends (Err stop) is = absurd cc
  ends (Ok after) is = grind (arith, is)

-- what is left of a session behind some of its inputs
abbrev Leads : ℕ → ℕ → List Input → State → State → Type 0
Leads taken count inputs from state =
    (frames : Frames) × (play_from board_links taken inputs from ≡ behind frames (play_from board_links (taken + min count (length inputs)) (drop count inputs) state))

inputs_lead : (count taken : ℕ) (inputs : List Input) (from state : State) → after_inputs (take count inputs) from ≡ Some state → Leads taken count inputs from state
unfolding play_from
inputs_lead zero taken inputs from state is =
    let here : from ≡ state = grind (arith, is) in
    let number : taken ≡ taken + min 0 (length inputs) = omega arith in
    ([], ap (λ (n : ℕ). play_from board_links n inputs from) number ∙ ap (λ s. play_from board_links (taken + min 0 (length inputs)) inputs s) here)
inputs_lead (suc count) taken [] from state is =
    let here : from ≡ state = grind (arith, is) in
    let number : taken ≡ taken + min (suc count) 0 = omega arith in
    ([], ap (λ (n : ℕ). play_from board_links n [] from) number ∙ ap (λ s. play_from board_links (taken + min (suc count) 0) [] s) here)
inputs_lead (suc count) taken (input ∷ inputs) from state is = next (λ middle is. inputs_lead count (taken + 1) inputs middle state is) (settled_after (chain_of input from)) refl is where
  next : ((middle : State) → after_inputs (take count inputs) middle ≡ Some state → Leads (taken + 1) count inputs middle state) → (after : Option State) → settled_after (chain_of input from) ≡ after → and_then (after_inputs (take count inputs)) after ≡ Some state → Leads taken (suc count) (input ∷ inputs) from state
  next leads None at is = absurd cc
  next leads (Some middle) at is =
      let later = leads middle is in
      let number : (taken + 1) + min count (length inputs) ≡ taken + min (suc count) (suc (length inputs)) = omega arith in
      let shown = shown_at (taken + 1) (chain_of input from) in
      let end = play_from board_links (taken + min (suc count) (suc (length inputs))) (drop count inputs) state in (
        shown ++ later.0,
        chain_leads (taken + 1) (play_from board_links (taken + 1) inputs) (chain_of input from) middle at
            ∙ ap (behind shown) later.1
            ∙ ap (λ (n : ℕ). behind shown (behind later.0 (play_from board_links n (drop count inputs) state))) number
            ∙ ap (λ (frames : Frames). record { shown = frames; close = end.close }) (sym (append_assoc shown later.0 end.shown)),
      )

pub numbered_append : (n : ℕ) (frames more : Frames) → frames_as_items n (frames ++ more) ≡ frames_as_items n frames ++ frames_as_items (n + length frames) more
unfolding frames_as_items
numbered_append n [] more = ap (λ (m : ℕ). frames_as_items m more) (omega arith)
numbered_append n (f ∷ frames) more =
    let number : (n + 1) + length frames ≡ n + suc (length frames) = omega arith in
    let first = item.Frame n f.1.kind f.0 f.1.level_text in
    ap (λ (items : List Item). first ∷ items) (numbered_append (n + 1) frames more)
    ∙ ap (λ (m : ℕ). first ∷ (frames_as_items (n + 1) frames ++ frames_as_items m more)) number

items_behind : (frames : Frames) (later : Played) → items_from 0 (behind frames later) ≡ frames_as_items 0 frames ++ items_from (length frames) later
unfolding items_from
items_behind frames later =
    let close = map item.Close (option_to_list later.close) in
    let number : 0 + length frames ≡ length frames = omega arith in
    ap (λ (items : List Item). items ++ close) (numbered_append 0 frames later.shown ∙ ap (λ (m : ℕ). frames_as_items 0 frames ++ frames_as_items m later.shown) number)
    ∙ append_assoc (frames_as_items 0 frames) (frames_as_items (length frames) later.shown) close

pub go_on : (plan : PlanState) (count : ℕ) (state : State) → standing_after plan count ≡ Some state →
    (frames : Frames) × (played_items plan ≡ frames_as_items 0 frames ++ items_from (length frames) (play_from board_links (min count (length plan.inputs)) (drop count plan.inputs) state))
unfolding standing_after played_items
go_on plan count state is = started (settled_after (start_chain (state_of plan))) refl is where
  started : (after : Option State) → settled_after (start_chain (state_of plan)) ≡ after → and_then (after_inputs (take count plan.inputs)) after ≡ Some state →
      (frames : Frames) × (played_items plan ≡ frames_as_items 0 frames ++ items_from (length frames) (play_from board_links (min count (length plan.inputs)) (drop count plan.inputs) state))
  started None at is = absurd cc
  started (Some first) at is =
      let chain = start_chain (state_of plan) in
      let later = inputs_lead count 0 plan.inputs first state is in
      let number : 0 + min count (length plan.inputs) ≡ min count (length plan.inputs) = omega arith in
      let end = play_from board_links (min count (length plan.inputs)) (drop count plan.inputs) state in
      let frames = shown_at 0 chain ++ later.0 in (
        frames,
        ap (items_from 0) (chain_leads 0 (play_from board_links 0 plan.inputs) chain first at
            ∙ ap (behind (shown_at 0 chain)) (later.1 ∙ ap (λ (n : ℕ). behind later.0 (play_from board_links n (drop count plan.inputs) state)) number)
            ∙ ap (λ (frames : Frames). record { shown = frames; close = end.close }) (sym (append_assoc (shown_at 0 chain) later.0 end.shown)))
            ∙ items_behind frames end,
      )
