-- How many items a session has at most.
use Rattle.pz_session.proofs.Common.{◌≡◌, ℕ, zero, suc, ◌+◌, ◌*◌, ◌<◌, ◌≤◌, ◌^◌, List, [], ◌∷◌, length, map, option_to_list, Result, Ok, IfOk, refl, ap, arith, length-map, length-append, Grid, Outcome, Input, Stop, Frame, FrameKind, PlanState, Link, Chain, follow, ticks, Links, Played, play_from, going_on, after_chain, ticks_after, frames_as_items, items_from, State, keeping, restart_link, won_link, kept_link, reached_link, effect, tick_link, press_link, undo_link, first_link, start_link, board_links, state_of, played_items, MOST_TICKS}
use Rattle.pz_case.specs.declared.item.FrameKind.TheVariants.{Move, Tick}
use Rattle.pz_case.specs.declared.item.Item.TheVariants as item

-- a link shows two frames at most
abbrev pub IsShort : {S : Type 0} → Result (Link S) Stop → Type 0
IsShort r = IfOk r (λ link. length link.shown ≤ 2)

pub record AreShort {S : Type 0} (r : Links S) : Type 0 where
  pub begun : (i : Input) (s : S) → IsShort (r.begun i s)
  pub ticked : (s : S) → IsShort (r.ticked s)

follow_short : {S : Type 0} (later : S → Chain S) (m : ℕ) (r : Result (Link S) Stop) → ((s : S) → length (later s).shown ≤ m) → IsShort r → length (follow later r).shown ≤ 2 + m
follow_short {S} later m r bound short = grind (arith, bound, λ (link : Link S). length-append link.shown (later link.after).shown)

pub ticks_short : {S : Type 0} (ticked : S → Result (Link S) Stop) (n : ℕ) (s : S) → ((t : S) → IsShort (ticked t)) → length (ticks ticked n s).shown ≤ n * 2
ticks_short ticked zero s short = omega arith
ticks_short ticked (suc n) s short = let h = follow_short (ticks ticked n) (n * 2) (ticked s) (λ t. ticks_short ticked n t short) (short s) in omega arith

few_ticks : (i : Input) → ticks_after i ≤ MOST_TICKS
few_ticks i = grind arith

going_short : {S : Type 0} (r : Links S) (at : ℕ) (later : S → Played) (m k : ℕ) (chain : Chain S) → ((s : S) → length (later s).shown ≤ m) → length chain.shown ≤ k → length (going_on r at later chain).shown ≤ k + m
going_short r at later m k chain bound h =
    let pair : Frame → ℕ × Frame = λ frame. (at, frame) in
    grind (arith, bound, length-map chain.shown pair, length-append (map pair chain.shown) (after_chain r later chain.after).shown)

pub played_short : {S : Type 0} (r : Links S) (taken : ℕ) (inputs : List Input) (s : S) → AreShort r → length (play_from r taken inputs s).shown ≤ length inputs * 1002
unfolding play_from
played_short r taken [] s short = omega arith
played_short r taken (i ∷ inputs) s short =
    let chain = follow (ticks r.ticked (ticks_after i)) (r.begun i s) in
    let one : length chain.shown ≤ 2 + ticks_after i * 2 = follow_short (ticks r.ticked (ticks_after i)) (ticks_after i * 2) (r.begun i s) (λ t. ticks_short r.ticked (ticks_after i) t short.ticked) (short.begun i s) in
    let few = few_ticks i in
    let h = going_short r (taken + 1) (play_from r (taken + 1) inputs) (length inputs * 1002) 1002 chain (λ t. played_short r (taken + 1) inputs t short) (omega arith) in
    omega arith

numbered_length : (n : ℕ) (frames : List (ℕ × Frame)) → length (frames_as_items n frames) ≡ length frames
unfolding frames_as_items
numbered_length n [] = refl
numbered_length n (f ∷ fs) = ap suc (numbered_length (n + 1) fs)

items_length : (n : ℕ) (p : Played) → length (items_from n p) ≤ length p.shown + 1
unfolding items_from
items_length n p = grind (arith, length-append (frames_as_items n p.shown) (map item.Close (option_to_list p.close)), numbered_length n p.shown)

effect_short : (kind : FrameKind) (s : State) (end : Outcome Grid) → length (effect kind s end).shown ≤ 2
unfolding effect restart_link reached_link kept_link won_link
effect_short kind s end = grind arith

tick_short : (s : State) → IsShort (tick_link s)
unfolding tick_link
tick_short s = grind (arith, λ (end : Outcome Grid). effect_short Tick s end)

begun_short : (i : Input) (s : State) → IsShort (first_link i s)
unfolding first_link press_link undo_link restart_link
begun_short i s = grind (arith, tick_short s, λ (end : Outcome Grid). effect_short Move (keeping s) end)

-- the items of a session can be numbered
pub items_bound : (plan : PlanState) → length plan.inputs ≤ 65536 → length (played_items plan) < 2 ^ 63
unfolding played_items start_link
items_bound plan few =
    let short : AreShort board_links = record { begun = begun_short; ticked = tick_short } in
    let link = Ok (start_link (state_of plan)) in
    let chain = follow (ticks board_links.ticked MOST_TICKS) link in
    let one : length chain.shown ≤ 2 + MOST_TICKS * 2 = follow_short (ticks board_links.ticked MOST_TICKS) (MOST_TICKS * 2) link (λ t. ticks_short board_links.ticked MOST_TICKS t short.ticked) (omega arith) in
    let all = going_short board_links 0 (play_from board_links 0 plan.inputs) (length plan.inputs * 1002) 1002 chain (λ t. played_short board_links 0 plan.inputs t short) one in
    let items = items_length 0 (going_on board_links 0 (play_from board_links 0 plan.inputs) chain) in
    omega arith
