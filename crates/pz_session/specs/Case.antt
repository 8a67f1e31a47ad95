-- The items of a case.
use Rattle.std.specs.Prelude.{List, [], ◌∷◌, Result, Ok, Err}
use Rattle.pz_case.specs.declared.item.Item.{Item}
use Rattle.pz_case.specs.declared.item.Item.TheVariants.{Close}
use Rattle.pz_case.specs.declared.item.Refusal.{Refusal}
use Rattle.pz_case.specs.declared.item.Verdict.TheVariants.{Refused}
use Rattle.pz_case.specs.declared.case.Case.{Case}
use Rattle.pz_case.specs.Plan.{PlanState}
use Rattle.pz_session.specs.declared.chain.TheConstants.{MOST_TICKS}
use Rattle.pz_session.specs.Chain.{follow, ticks}
use Rattle.pz_session.specs.Session.{play_from, going_on, items_from}
use Rattle.pz_session.specs.Board.{State, board_links, start_link, loaded_at}

-- the session at its start
abbrev pub state_of : PlanState → State
state_of plan = loaded_at plan.game plan.program plan.order plan.recorded plan.first

-- a played session has its frames and then its close; the start is a chain, as an input is
unfoldable pub played_items : PlanState → List Item
played_items plan = items_from 0 (going_on board_links 0 (play_from board_links 0 plan.inputs)
    (follow (ticks board_links.ticked MOST_TICKS) (Ok (start_link (state_of plan)))))

-- a refused session has only its close
unfoldable pub items_of_plan : Result PlanState Refusal → List Item
items_of_plan (Err refusal) = Close (Refused refusal) ∷ []
items_of_plan (Ok plan) = played_items plan

-- the items of a case
abbrev pub items_of : Case → List Item
items_of case = items_of_plan case.plan
