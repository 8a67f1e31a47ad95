-- The items of a case that are still to come.
use Rattle.std.specs.Prelude.{◌+◌, ◌<◌, ◌^◌, List, [], length, map, option_to_list, Bool, true, false}
use Rattle.pz_case.specs.declared.item.Item.{Item}
use Rattle.pz_case.specs.declared.item.Item.TheVariants.{Close}
use Rattle.pz_case.specs.declared.item.Verdict.TheVariants as verdict
use Rattle.pz_session.specs.declared.stage.Stage.{Stage}
use Rattle.pz_session.specs.declared.stage.Stage.TheVariants.{Refused, Playing, Failed}
use Rattle.pz_session.specs.Player.{items_left}

-- the items that are still to come, and whether memory was refused
pub record Remaining : Type 0 where
  pub items : List Item
  pub has_failed : Bool

-- what is still to come: nothing once memory was refused
abbrev pub remaining_in : Stage → Remaining
remaining_in (Refused refusal) = record { items = map (λ why. Close (verdict.Refused why)) (option_to_list refusal); has_failed = false }
remaining_in (Playing player) = record { items = items_left player; has_failed = false }
remaining_in Failed = record { items = []; has_failed = true }

-- the frames of a session in play can be numbered to its end
abbrev pub CanBeNumbered : Stage → Type 0
CanBeNumbered (Playing player) = player.number + length (items_left player) < 2 ^ 63
CanBeNumbered other = Unit {0}
