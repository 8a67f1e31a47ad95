-- How a place is led on by an input.
use Rattle.std.proofs.Common.{◌≡◌, ℕ, ◌+◌, List, [], ◌∷◌, ◌++◌, length, Option, Some, None, Result, Ok, refl, ap, sym, ◌∙◌, subst, arith}
use Rattle.std.proofs.lemmas.List.{append_assoc, append-nil}
use Rattle.pz_record.specs.declared.input.Input.{Input}
use Rattle.pz_case.specs.declared.item.Item.{Item}
use Rattle.pz_case.specs.declared.item.Item.TheVariants as item
use Rattle.pz_case.specs.declared.item.Verdict.TheVariants as verdict
use Rattle.pz_case.specs.declared.item.Stop.{Stop}
use Rattle.pz_case.specs.Plan.{PlanState}
use Rattle.pz_session.specs.Chain.{Chain}
use Rattle.pz_session.specs.Board.{State, IsOneGame, past_with, verdict_of}
unfoldable use Rattle.pz_session.specs.Board.{with_past}
use Rattle.pz_session.specs.Case.{state_of}
use Rattle.pz_session.specs.Standing.{Stood, stood_in}
use Rattle.pz_steps.specs.Steps.{chain_of, start_chain}
use Rattle.pz_open.specs.declared.telling.Told.{Told}
use Rattle.pz_open.specs.declared.place.Moved.{Moved}
use Rattle.pz_open.specs.Opened.{ComesWith, HasStopped, KeepsPlan, StandsAt, frame_items, items_with}
use Rattle.pz_open.specs.Telling.{IsTold}
use Rattle.pz_open.specs.Places.{CanGoOn, IsEnded, IsLed, IsPlace, IsSettled, IsStood, state_of_stood}
use Rattle.pz_open.proofs.Keeping.{EndKeeps, chain_keeps, start_keeps}
use Rattle.pz_open.proofs.Opening as opening

-- where a session of a plan settles, it stands again
stood_again : (plan : PlanState) (state : State) → state.game ≡ plan.game → state.program ≡ plan.program → state.order ≡ plan.order → state.recorded ≡ plan.recorded
    → state_of_stood plan (stood_in (with_past state)) ≡ with_past state
unfolding with_past
stood_again plan state game program order recorded = λ i. record {
  game = sym game i;
  program = sym program i;
  order = sym order i;
  recorded = sym recorded i;
  entry = state.entry;
  level = state.level;
  target = state.target;
  past = past_with state state.before;
  before = None;
  is_over = state.is_over;
}

keeps_after : (from state : State) (end : Result State Stop) → EndKeeps from end → end ≡ Ok state → KeepsPlan from state
keeps_after from state end keeps is = subst (EndKeeps from) is keeps

-- behind a chain that ends
module _ (plan : PlanState) (from : State) (game : from.game ≡ plan.game) (program : from.program ≡ plan.program) (order : from.order ≡ plan.order) (recorded : from.recorded ≡ plan.recorded) where
  again : (state : State) → KeepsPlan from state → state_of_stood plan (stood_in (with_past state)) ≡ with_past state
  again state keeps = stood_again plan state (keeps.game ∙ game) (keeps.program ∙ program) (keeps.order ∙ order) (keeps.recorded ∙ recorded)

  goes : (told : Told) (state : State) (moved : Moved) → KeepsPlan from state → IsSettled told state moved → CanGoOn plan moved.place
  goes told state moved keeps settles = subst (CanGoOn plan) (sym settles.place) (subst IsOneGame (sym (again state keeps)) settles.game)

  stands : (told : Told) (state : State) (moved : Moved) (inputs : List Input) (frames : ℕ) → KeepsPlan from state → IsSettled told state moved → told.frames ≡ frames
      → StandsAt plan inputs frames (with_past state) → IsPlace plan inputs moved.place
  stands told state moved inputs frames keeps settles count at =
      subst (IsPlace plan inputs) (sym settles.place)
      (subst (λ (n : ℕ). StandsAt plan inputs n (state_of_stood plan (stood_in (with_past state)))) (sym count) (subst (StandsAt plan inputs frames) (sym (again state keeps)) at))

-- an input from where a session stands
module _ (plan : PlanState) (stood : Stood) (input : Input) (before told : Told) (state : State) (moved : Moved) where
  abbrev from : State
  from = state_of_stood plan stood

  pub led_goes : (stop : Option Stop) → IsTold before (chain_of input from) told stop state → IsEnded told stop state moved → CanGoOn plan moved.place
  led_goes None is ends = goes plan from refl refl refl refl told state moved (keeps_after from state (chain_of input from).after (chain_keeps input from) is.end) ends
  led_goes (Some stop) is ends = subst (CanGoOn plan) (sym ends.place) tt

  module _ (inputs : List Input) (frames : ℕ) (at : StandsAt plan inputs frames from) (none : before.items.items ≡ []) (count : before.frames ≡ frames) (taken : before.taken ≡ length inputs + 1) where
    told_items : (stop : Option Stop) → IsTold before (chain_of input from) told stop state → told.items.items ≡ frame_items frames (length inputs + 1) (chain_of input from).shown
    told_items stop is = is.items ∙ (λ i. none i ++ frame_items (count i) (taken i) (chain_of input from).shown)

    told_frames : (stop : Option Stop) → IsTold before (chain_of input from) told stop state → told.frames ≡ frames + length (chain_of input from).shown
    told_frames stop is = is.frames ∙ ap (λ (n : ℕ). n + length (chain_of input from).shown) count

    pub led_place : (stop : Option Stop) → IsTold before (chain_of input from) told stop state → IsEnded told stop state moved → IsPlace plan (inputs ++ input ∷ []) moved.place
    led_place None is ends =
        stands plan from refl refl refl refl told state moved (inputs ++ input ∷ []) (frames + length (chain_of input from).shown)
        (keeps_after from state (chain_of input from).after (chain_keeps input from) is.end) ends (told_frames None is) (opening.stands_next plan inputs frames from at input state is.end)
    led_place (Some stop) is ends =
        subst (IsPlace plan (inputs ++ input ∷ [])) (sym ends.place)
        (subst (λ (n : ℕ). HasStopped plan (inputs ++ input ∷ []) n stop) (sym (told_frames (Some stop) is)) (opening.stops_next plan inputs frames from at input stop is.end))

    pub led_items : (stop : Option Stop) → IsTold before (chain_of input from) told stop state → IsEnded told stop state moved → ComesWith plan inputs input moved.items.items
    led_items None is ends =
        subst (ComesWith plan inputs input) (sym (ends.items ∙ ap (λ (items : List Item). items ++ opening.close plan inputs frames from at input state is.end) (told_items None is)))
        (opening.comes plan inputs frames from at input state is.end)
    led_items (Some stop) is ends =
        subst (ComesWith plan inputs input) (sym (ends.items ∙ ap (λ (items : List Item). items ++ opening.stopped plan inputs frames from at input stop is.end) (told_items (Some stop) is)))
        (opening.comes_stopped plan inputs frames from at input stop is.end)

-- an input from a state where a session stands
module _ (plan : PlanState) (from : State) (stood : IsStood plan from) (input : Input) (before told : Told) (state : State) where
  pub stays_stood : IsTold before (chain_of input from) told None state → IsStood plan (with_past state)
  stays_stood is = again plan from (ap (λ (s : State). s.game) (sym stood)) (ap (λ (s : State). s.program) (sym stood)) (ap (λ (s : State). s.order) (sym stood)) (ap (λ (s : State). s.recorded) (sym stood))
      state (keeps_after from state (chain_of input from).after (chain_keeps input from) is.end)

  pub stands_behind : (inputs : List Input) → StandsAt plan inputs before.frames from → IsTold before (chain_of input from) told None state → IsLed plan (inputs ++ input ∷ []) told.frames None (with_past state)
  stands_behind inputs at is =
      subst (λ (n : ℕ). StandsAt plan (inputs ++ input ∷ []) n (with_past state)) (sym is.frames) (opening.stands_next plan inputs before.frames from at input state is.end)

  pub has_stopped_behind : (inputs : List Input) (stop : Stop) (end : State) → StandsAt plan inputs before.frames from → IsTold before (chain_of input from) told (Some stop) state → IsLed plan (inputs ++ input ∷ []) told.frames (Some stop) end
  has_stopped_behind inputs stop end at is =
      subst (λ (n : ℕ). HasStopped plan (inputs ++ input ∷ []) n stop) (sym is.frames) (opening.stops_next plan inputs before.frames from at input stop is.end)

-- where a session was resumed, it stands
pub stood_there : (plan : PlanState) (stood : Stood) (state : State) → state ≡ state_of_stood plan stood → IsStood plan state
stood_there plan stood state is = subst (IsStood plan) (sym is) refl

-- where a session stands at a state, its place is there
pub place_of_stood : (plan : PlanState) (inputs : List Input) (frames : ℕ) (state : State) → IsStood plan state → StandsAt plan inputs frames state → StandsAt plan inputs frames (state_of_stood plan (stood_in state))
place_of_stood plan inputs frames state stood at = subst (StandsAt plan inputs frames) (sym stood) at

-- a session that has stopped shows nothing more, whatever inputs come
pub stays_so : (plan : PlanState) (inputs more : List Input) (frames : ℕ) (stop : Stop) → HasStopped plan inputs frames stop → HasStopped plan (inputs ++ more) frames stop
stays_so plan inputs [] frames stop at = subst (λ (all : List Input). HasStopped plan all frames stop) (sym (append-nil inputs)) at
stays_so plan inputs (input ∷ more) frames stop at =
    subst (λ (all : List Input). HasStopped plan all frames stop) (append_assoc inputs (input ∷ []) more)
    (stays_so plan (inputs ++ input ∷ []) more frames stop (opening.stays_stopped plan inputs frames stop at input))

-- the start of a session
module _ (plan : PlanState) (before told : Told) (state : State) (moved : Moved) where
  abbrev first : Chain State
  first = start_chain (state_of plan)

  pub begun_goes : (stop : Option Stop) → IsTold before first told stop state → IsEnded told stop state moved → CanGoOn plan moved.place
  begun_goes None is ends = goes plan (state_of plan) refl refl refl refl told state moved (keeps_after (state_of plan) state first.after (start_keeps (state_of plan)) is.end) ends
  begun_goes (Some stop) is ends = subst (CanGoOn plan) (sym ends.place) tt

  module _ (none : before.items.items ≡ []) (count : before.frames ≡ 0) (taken : before.taken ≡ 0) where
    begun_told : (stop : Option Stop) → IsTold before first told stop state → told.items.items ≡ frame_items 0 0 first.shown
    begun_told stop is = is.items ∙ (λ i. none i ++ frame_items (count i) (taken i) first.shown)

    begun_frames : (stop : Option Stop) → IsTold before first told stop state → told.frames ≡ length first.shown
    begun_frames stop is = is.frames ∙ ap (λ (n : ℕ). n + length first.shown) count ∙ omega arith

    pub begun_place : (stop : Option Stop) → IsTold before first told stop state → IsEnded told stop state moved → IsPlace plan [] moved.place
    begun_place None is ends =
        stands plan (state_of plan) refl refl refl refl told state moved [] (length first.shown) (keeps_after (state_of plan) state first.after (start_keeps (state_of plan)) is.end) ends
        (begun_frames None is) (opening.stands_first plan state is.end)
    begun_place (Some stop) is ends =
        subst (IsPlace plan []) (sym ends.place) (subst (λ (n : ℕ). HasStopped plan [] n stop) (sym (begun_frames (Some stop) is)) (opening.stops_first plan stop is.end))

    pub begun_items : (stop : Option Stop) → IsTold before first told stop state → IsEnded told stop state moved → moved.items.items ≡ items_with plan []
    begun_items None is ends = ends.items ∙ ap (λ (items : List Item). items ++ item.Close (verdict_of (with_past state)) ∷ []) (begun_told None is) ∙ sym (opening.starts plan state is.end)
    begun_items (Some stop) is ends = ends.items ∙ ap (λ (items : List Item). items ++ item.Close (verdict.Stopped stop) ∷ []) (begun_told (Some stop) is) ∙ sym (opening.stops_at_start plan stop is.end)
