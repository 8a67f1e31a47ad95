-- The next step, and what is left behind it.
use Rattle.std.proofs.Common.{◌≡◌, ℕ, zero, suc, ◌-◌, ◌<◌, Bool, true, false, [], ◌∷◌, Option, Some, None, Result, Ok, Err, drop, refl, ap, sym, ◌∙◌, arith}
use Rattle.pz_record.specs.declared.input.Input.{Input}
use Rattle.pz_case.specs.declared.item.Stop.{Stop}
use Rattle.pz_session.specs.Session.{ticks_after}
use Rattle.pz_session.specs.Chain.{Link, ticks, follow}
use Rattle.pz_session.specs.Board.{State}
unfoldable use Rattle.pz_session.specs.Board.{first_link, with_past, tick_link}
use Rattle.pz_steps.specs.Chains.{chain_after, left_of, leaving}
use Rattle.pz_steps.specs.Left.{after_link, steps_left}
use Rattle.pz_steps.specs.declared.steps.Next.{Next}
use Rattle.pz_steps.specs.Steps.{following, later_steps, settled_after, settled_in, taken_step, tick_steps}

-- a tick that may run is the next step
pub some_tick : (n : ℕ) (state : State) → 0 < n → tick_steps n state ≡ taken_step state None ∷ following (tick_steps (n - 1)) (tick_link state)
some_tick zero state some = absurd (omega (arith, some))
some_tick (suc n) state some =
    let one : n ≡ suc n - 1 = omega arith in
    ap (λ (k : ℕ). taken_step state None ∷ following (tick_steps k) (tick_link state)) one

pub no_tick : (n : ℕ) (state : State) → n ≡ 0 → tick_steps n state ≡ []
no_tick n state none = ap (λ (k : ℕ). tick_steps k state) none

-- what follows a link that was played
pub after_follows : (n : ℕ) (link : Result (Link State) Stop) (state : State) (more : Option Bool) → left_of link ≡ leaving state more → after_link more n state ≡ following (tick_steps n) link
after_follows n (Err stop) state None is = refl
after_follows n (Err stop) state (Some goes_on) is = absurd cc
after_follows n (Ok link) state None is = absurd cc
after_follows n (Ok link) state (Some true) is = grind (arith, is)
after_follows n (Ok link) state (Some false) is = grind (arith, is)

-- the steps behind the first link of an input
pub later_are : (input : Input) (next : Next) (before after : State) (more : Option Bool) (n : ℕ) → ((state : State) → steps_left next state ≡ after_link more n state) → n ≡ ticks_after input → left_of (first_link input before) ≡ leaving after more → steps_left next after ≡ later_steps input before
later_are input next before after more n is number left =
    is after ∙ ap (λ (k : ℕ). after_link more k after) number ∙ after_follows (ticks_after input) (first_link input before) after more left

-- the steps behind a tick
pub ticked : (next : Next) (before after : State) (more : Option Bool) (n : ℕ) → ((state : State) → steps_left next state ≡ after_link more (n - 1) state) → 0 < n → left_of (tick_link before) ≡ leaving after more → steps_left next after ≡ drop 1 (tick_steps n before)
ticked next before after more n is some left =
    is after ∙ after_follows (n - 1) (tick_link before) after more left ∙ sym (ap (drop 1) (some_tick n before some))

-- the end of a chain behind a link that was played
pub chain_follows : (n : ℕ) (link : Result (Link State) Stop) (state : State) (goes_on : Bool) → left_of link ≡ leaving state (Some goes_on) → settled_after (follow (ticks tick_link n) link) ≡ settled_in (chain_after goes_on n state)
chain_follows n (Err stop) state goes_on is = absurd cc
chain_follows n (Ok link) state true is = grind (arith, is)
chain_follows n (Ok link) state false is = grind (arith, is)

pub chain_stops : (n : ℕ) (link : Result (Link State) Stop) (state : State) → left_of link ≡ leaving state None → settled_after (follow (ticks tick_link n) link) ≡ None
chain_stops n (Err stop) state is = refl
chain_stops n (Ok link) state is = absurd cc

-- a tick more of a chain
chain_ticks : (n : ℕ) (state : State) → 0 < n → chain_after true n state ≡ (follow (ticks tick_link (n - 1)) (tick_link state)).after
chain_ticks zero state some = absurd (omega (arith, some))
chain_ticks (suc n) state some =
    let one : n ≡ suc n - 1 = omega arith in
    ap (λ (k : ℕ). (follow (ticks tick_link k) (tick_link state)).after) one

pub chain_goes_on : (n : ℕ) (before state : State) (goes_on : Bool) → 0 < n → left_of (tick_link before) ≡ leaving state (Some goes_on) → settled_in (chain_after true n before) ≡ settled_in (chain_after goes_on (n - 1) state)
chain_goes_on n before state goes_on some is = ap settled_in (chain_ticks n before some) ∙ chain_follows (n - 1) (tick_link before) state goes_on is

pub chain_stops_there : (n : ℕ) (before state : State) → 0 < n → left_of (tick_link before) ≡ leaving state None → settled_in (chain_after true n before) ≡ None
chain_stops_there n before state some is = ap settled_in (chain_ticks n before some) ∙ chain_stops (n - 1) (tick_link before) state is

-- no more ticks may run
pub chain_is_long : (n : ℕ) (state : State) → n ≡ 0 → settled_in (chain_after true n state) ≡ None
chain_is_long n state none = ap (λ (k : ℕ). settled_in (chain_after true k state)) none
