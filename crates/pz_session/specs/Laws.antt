-- A law of sessions.
use Rattle.std.specs.Prelude.{◌≡◌, ℕ, List, [], ◌∷◌, ◌++◌}
use Rattle.pz_case.specs.declared.case.Case.{Case}
use Rattle.pz_session.specs.declared.chain.Frame.{Frame}
use Rattle.pz_case.specs.declared.item.Item.TheVariants as item
use Rattle.pz_case.specs.declared.item.Verdict.{Verdict}
use Rattle.pz_session.specs.Session.{frames_as_items}
use Rattle.pz_session.specs.Case.{items_of}

-- the items of a case are frames, numbered from 0, and last one close
abbrev pub CloseOnce : Type 0
CloseOnce = (case : Case) → (frames : List (ℕ × Frame)) × ((end : Verdict) × (items_of case ≡ frames_as_items 0 frames ++ item.Close end ∷ []))
