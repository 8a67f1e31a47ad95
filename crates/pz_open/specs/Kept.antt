-- What a session that is kept open keeps.
use Rattle.std.specs.Prelude.{◌≡◌, ◌≤◌, ℕ, List, [], ◌∷◌, ◌++◌, All, IfSome, Option, flat_map, length, take}
use Rattle.pz_record.specs.declared.input.Input.{Input}
use Rattle.pz_record.specs.declared.input.TheConstants.{MOST_INPUTS}
use Rattle.pz_case.specs.declared.item.Item.{Item}
use Rattle.pz_case.specs.Plan.{PlanState}
use Rattle.pz_open.specs.declared.opened.Kept.{Kept}
use Rattle.pz_open.specs.declared.place.Place.{Place}
use Rattle.pz_lines.specs.Lines.{frame_count, item_line}
use Rattle.pz_open.specs.Opened.{ComesWith, OpenState, items_with}
use Rattle.pz_open.specs.Places.{CanGoOn, IsPlace}

-- a place is where the session stands behind these inputs, and it can go on from there
pub record IsStanding (plan : PlanState) (inputs : List Input) (place : Place) : Type 0 where
  pub there : IsPlace plan inputs place
  pub can : CanGoOn plan place

-- a place that was kept is behind the first inputs
pub record IsKeptOf (plan : PlanState) (inputs : List Input) (kept : Kept) : Type 0 where
  pub within : kept.count ≤ length inputs
  pub standing : IsStanding plan (take kept.count inputs) kept.place

-- what holds of every session that is kept open
pub record IsOpen (plan : PlanState) (inputs : List Input) (place : Option Place) (kept : List Kept) : Type 0 where
  pub few : length inputs ≤ MOST_INPUTS
  pub standing : IfSome place (IsStanding plan inputs)
  pub on_the_way : All (IsKeptOf plan inputs) kept

-- the items that come with the last of the inputs; without inputs, those of the start
pub record IsNewest (plan : PlanState) (inputs : List Input) (items : List Item) : Type 0 where
  pub at_start : inputs ≡ [] → items ≡ items_with plan []
  pub with_last : (before : List Input) (last : Input) → inputs ≡ before ++ last ∷ [] → ComesWith plan before last items

-- lines that tell the items that came with a session's last input; their close tells how many frames there are with them
pub record TellsNewest (session : OpenState) (lines : List ℕ) : Type 0 where
  pub items : List Item
  pub newest : IsNewest session.plan session.plan.inputs items
  pub told : lines ≡ flat_map (item_line session.label.number session.label.name (frame_count (items_with session.plan session.plan.inputs))) items
