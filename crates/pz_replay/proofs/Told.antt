-- A recording that is told item by item.
use Rattle.std.proofs.Common.{◌≡◌, ℕ, suc, List, [], ◌∷◌, map, refl, ap}
use Rattle.pz_case.specs.Playing.{shown_by}
use Rattle.pz_case.specs.declared.case.Case.{Case}
use Rattle.pz_case.specs.declared.item.Item.{Item}
use Rattle.pz_replay.specs.Telling.{told_from}

-- the pieces of each session are its items
pub items_told : (items_of : Case → List Item) (number : ℕ) (job : List Case) → map items_of job ≡ told_from (λ _ shown. shown.items) number (map (shown_by items_of) job)
items_told items_of number [] = refl
items_told items_of number (case ∷ job) = ap (λ (later : List (List Item)). items_of case ∷ later) (items_told items_of (suc number) job)
