use Rattle.pz_session.proofs.Common.{◌≡◌, state_of, ℕ, ◌+◌, ◌<◌, ◌≤◌, ◌^◌, List, length, Result, Ok, Err, IfOk, ap, ap₂, ◌∙◌, arith, GameParts, Program, Input, PlanState, Player, items_left, left_with, State, start_link, loaded_at, played_items, MOST_TICKS}
use Rattle.pz_record.specs.declared.order.Order.{Order}
use Rattle.pz_session.proofs.Bounds.{items_bound}
use Rattle.pz_session.proofs.run.play.Goals as goal

-- the items of a session that begins
starts : (plan : PlanState) (state : State) (game : GameParts) (program : Program) (order : Order) (recorded : List (List (List ℕ))) (first : ℕ)
    → state ≡ loaded_at game program order recorded first → game ≡ plan.game → program ≡ plan.program → order ≡ plan.order → recorded ≡ plan.recorded → first ≡ plan.first → state ≡ state_of plan
starts plan state game program order recorded first is e p f g h = cc

begins_if_ok : {E : Type 0} (plan : PlanState) (state : State) (inputs : List Input) (result : Result Player E) → state ≡ state_of plan → inputs ≡ plan.inputs
    → IfOk result (λ player. items_left player ≡ left_with MOST_TICKS 0 0 inputs (Ok (start_link state))) → IfOk result (λ player. items_left player ≡ played_items plan)
unfolding played_items
begins_if_ok plan state inputs (Ok player) e f g = g ∙ ap₂ (λ i s. left_with MOST_TICKS 0 0 i (Ok (start_link s))) f e
begins_if_ok plan state inputs (Err fault) e f g = g

-- a session that begins with the number 0 can be numbered to its end
room_if_ok : {E : Type 0} (plan : PlanState) (result : Result Player E) → length plan.inputs ≤ 65536 → IfOk result (λ player. player.number ≡ 0)
    → IfOk result (λ player. items_left player ≡ played_items plan) → IfOk result (λ player. player.number + length (items_left player) < 2 ^ 63)
room_if_ok plan (Ok player) few first is = omega (arith, first, ap length is, items_bound plan few)
room_if_ok plan (Err fault) few first is = is

pub returns-in-Ok-clause-items : goal.returns-in-Ok-clause-items
returns-in-Ok-clause-items c =
    let at_start = starts c.args.plan.now c.in-Ok.board _ _ _ _ _ c.in-Ok.ensures c.game.ensures.game c.program.ensures c.order.ensures c.recorded.ensures c.first.ensures in
    begins_if_ok c.args.plan.now c.in-Ok.board c.new.result c.start.result at_start (c.new.ensures ∙ c.items.ensures.items ∙ c.inputs.ensures) c.start.ensures.left

pub returns-in-Ok-clause-room : goal.returns-in-Ok-clause-room
returns-in-Ok-clause-room c =
    let at_start = starts c.args.plan.now c.in-Ok.board _ _ _ _ _ c.in-Ok.ensures c.game.ensures.game c.program.ensures c.order.ensures c.recorded.ensures c.first.ensures in
    let is = begins_if_ok c.args.plan.now c.in-Ok.board c.new.result c.start.result at_start (c.new.ensures ∙ c.items.ensures.items ∙ c.inputs.ensures) c.start.ensures.left in
    room_if_ok c.args.plan.now c.start.result (rw c.inputs.ensures at c.items.ensures.few) c.start.ensures.number is
