-- What an item takes from what is left, and that a link leaves it as it is.
use Rattle.pz_session.proofs.Common.{◌≡◌, ℕ, ◌+◌, ◌≤◌, arith, Bool, false, List, [], ◌∷◌, ◌++◌, Option, None, option_to_list, drop, length, map, Ok, Err, Result, refl, ap, sym, ◌∙◌, drop_all, map-append, append_assoc, Input, Stop, Frame, items_from, frames_as_items, play_from, showing, going_on, after_chain, State, board_links, tick_link, verdict_of, Link, follow, ticks, Player, left_in, to_come, to_follow, left_with, items_left, is_waiting, Stopped, ◌<◌, zero, suc, ◌-◌, true, get_or, drop_more, first_link, ticks_after, is_waiting_in}
use Rattle.std.proofs.lemmas.Bool.Decides.{nat_tests}
use Rattle.pz_case.specs.declared.item.Item.TheVariants as item
use Rattle.pz_session.specs.declared.player.Phase.{Phase}
use Rattle.pz_session.specs.declared.player.Phase.TheVariants as phase
use Rattle.pz_case.specs.declared.item.Stop.TheVariants.{AgainLimit}

pub left-first : (at : Phase) (n : ℕ) (frame : Frame) (second : List Frame) (taken : ℕ) (inputs : List Input) (state : State) → left_in at n (frame ∷ second) taken inputs state ≡ item.Frame n frame.kind taken frame.level_text ∷ left_in at (n + 1) second taken inputs state
unfolding left_in items_from frames_as_items
left-first at n frame second taken inputs state = refl

-- what is left, where the pending frames are known
pub left-at : (p : Player) (first second : Option Frame) → p.first ≡ first → p.second ≡ second → items_left p ≡ left_in p.phase p.number (option_to_list first ++ option_to_list second) p.taken (drop p.taken p.inputs) p.board
left-at p first second e f =
    ap (λ o. left_in p.phase p.number (option_to_list o ++ option_to_list p.second) p.taken (drop p.taken p.inputs) p.board) e
    ∙ ap (λ o. left_in p.phase p.number (option_to_list first ++ option_to_list o) p.taken (drop p.taken p.inputs) p.board) f

pub left-of_closed : (p : Player) → p.phase ≡ phase.Closed → p.first ≡ None → p.second ≡ None → items_left p ≡ []
unfolding left_in items_from frames_as_items to_come
left-of_closed p at e f = left-at p None None e f ∙ ap (λ q. left_in q p.number [] p.taken (drop p.taken p.inputs) p.board) at

pub left-of_stopped : (p : Player) (stop : Stop) → p.phase ≡ phase.Stopped stop → p.first ≡ None → p.second ≡ None → items_left p ≡ item.Close (Stopped stop) ∷ []
unfolding left_in items_from frames_as_items to_come
left-of_stopped p stop at e f = left-at p None None e f ∙ ap (λ q. left_in q p.number [] p.taken (drop p.taken p.inputs) p.board) at

-- no link is needed: with nothing pending, the phase says so
pub left-of_over : (p : Player) → p.phase ≡ phase.Between → p.first ≡ None → p.second ≡ None → is_waiting p ≡ false → items_left p ≡ item.Close (verdict_of p.board) ∷ []
unfolding left_in items_from frames_as_items to_come play_from
left-of_over p at e f ready =
    let past : length p.inputs ≤ p.taken = grind (arith, nat_tests, at, e, f, ready) in
    left-at p None None e f ∙ ap (λ q. left_in q p.number [] p.taken (drop p.taken p.inputs) p.board) at
    ∙ ap (λ l. left_in phase.Between p.number [] p.taken l p.board) (drop_all p.taken p.inputs past)

-- the frames of a link come first
pub going_on-link : (n taken : ℕ) (inputs : List Input) (link : Link State) → going_on board_links taken (play_from board_links taken inputs) (follow (ticks tick_link n) (Ok link)) ≡ showing taken link.shown (to_follow link.goes_on n taken inputs link.after)
going_on-link n taken inputs link =
    let at : Frame → ℕ × Frame = λ frame. (taken, frame) in
    let chain = ticks tick_link n link.after in
    let rest = after_chain board_links (play_from board_links taken inputs) chain.after in
    grind (arith, map-append at link.shown chain.shown, append_assoc (map at link.shown) (map at chain.shown) rest.shown)

-- what is left after a link that is known
pub left-link : (n number taken : ℕ) (inputs : List Input) (frames : List Frame) (goes_on : Bool) (state after : State) (at : Phase) (link : Result (Link State) Stop) → link ≡ Ok (record { shown = frames; after = state; goes_on = goes_on }) → ((t : ℕ) (is : List Input) → to_come at t is after ≡ to_follow goes_on n t is state) → left_in at number frames taken inputs after ≡ left_with n number taken inputs link
unfolding left_in
left-link n number taken inputs frames goes_on state after at link is comes =
    grind (arith, comes taken inputs, going_on-link n taken inputs (record { shown = frames; after = state; goes_on = goes_on }), is)

pub left-link_stopped : (n : ℕ) (p : Player) (stop : Stop) (link : Result (Link State) Stop) → p.phase ≡ phase.Stopped stop → p.first ≡ None → p.second ≡ None → link ≡ Err stop → items_left p ≡ left_with n p.number p.taken (drop p.taken p.inputs) link
unfolding items_from frames_as_items
left-link_stopped n p stop link at e f is = left-of_stopped p stop at e f ∙ ap (left_with n p.number p.taken (drop p.taken p.inputs)) (sym is)

pub record Waiting (p : Player) : Type 0 where
  pub first : p.first ≡ None
  pub second : p.second ≡ None
  pub here : is_waiting_in p.phase p.taken p.inputs ≡ true

pub waiting-parts : (p : Player) → is_waiting p ≡ true → Waiting p
waiting-parts p h = record { first = grind (arith, h); second = grind (arith, h); here = grind (arith, h) }

-- no tick is allowed any more
pub left-no_tick : (p q : Player) (allowed : ℕ) → Waiting p → p.phase ≡ phase.Ticking allowed → allowed ≡ 0 → q.phase ≡ phase.Stopped AgainLimit → q.first ≡ None → q.second ≡ None → items_left q ≡ items_left p
unfolding left_in items_from frames_as_items to_come
left-no_tick p q allowed w at none stopped e f = grind (arith, left-of_stopped q AgainLimit stopped e f, w.first, w.second, at, none)

-- a tick
pub left-tick : (p : Player) (allowed : ℕ) → Waiting p → p.phase ≡ phase.Ticking allowed → (allowed ≡ 0 → ⊥) → left_with (allowed - 1) p.number p.taken (drop p.taken p.inputs) (tick_link p.board) ≡ items_left p
unfolding left_in items_from frames_as_items to_come
left-tick p zero w at some = absurd (some refl)
left-tick p (suc n) w at some =
    let one : suc n - 1 ≡ n = omega arith in
    ap (λ k. left_with k p.number p.taken (drop p.taken p.inputs) (tick_link p.board)) one
    ∙ sym (left-at p None None w.first w.second ∙ ap (λ a. left_in a p.number [] p.taken (drop p.taken p.inputs) p.board) at)

-- the next input
pub left-begin : (p : Player) (input : Input) (n : ℕ) → Waiting p → p.phase ≡ phase.Between → p.taken < length p.inputs → input ≡ get_or p.inputs p.taken input → n ≡ ticks_after input → left_with n p.number (p.taken + 1) (drop (p.taken + 1) p.inputs) (first_link input p.board) ≡ items_left p
unfolding left_in items_from frames_as_items to_come play_from
left-begin p input n w at in_range is allowed =
    let next : drop p.taken p.inputs ≡ input ∷ drop (p.taken + 1) p.inputs =
    drop_more p.inputs p.taken input in_range ∙ ap (λ i. i ∷ drop (p.taken + 1) p.inputs) (sym is) in
    ap (λ k. left_with k p.number (p.taken + 1) (drop (p.taken + 1) p.inputs) (first_link input p.board)) allowed
    ∙ sym (left-at p None None w.first w.second ∙ ap (λ a. left_in a p.number [] p.taken (drop p.taken p.inputs) p.board) at ∙ ap (λ l. left_in phase.Between p.number [] p.taken l p.board) next)
