-- The items of a session.
use Rattle.std.specs.Prelude.{ℕ, ◌+◌, ◌-◌, List, [], ◌∷◌, ◌++◌, map, Result, Ok, Err, Option, Some, option_to_list}
use Rattle.pz_record.specs.declared.input.Input.{Input}
use Rattle.pz_record.specs.declared.input.Input.TheVariants.{Tick}
use Rattle.pz_case.specs.declared.item.Stop.{Stop}
use Rattle.pz_case.specs.declared.item.Verdict.{Verdict}
use Rattle.pz_case.specs.declared.item.Verdict.TheVariants.{Stopped}
use Rattle.pz_session.specs.declared.chain.Frame.{Frame}
use Rattle.pz_case.specs.declared.item.Item.{Item}
use Rattle.pz_case.specs.declared.item.Item.TheVariants as item
use Rattle.pz_session.specs.declared.chain.TheConstants.{MOST_TICKS}
use Rattle.pz_session.specs.Chain.{Link, Chain, follow, ticks}

-- how links are played
pub record Links (S : Type 0) : Type 0 where
  pub begun : Input → S → Result (Link S) Stop
  pub ticked : S → Result (Link S) Stop
  pub settled : S → S
  pub verdict : S → Verdict

-- the frames that are shown, each with the number of inputs taken, and the close, unless it was shown before
pub record Played : Type 0 where
  pub shown : List (ℕ × Frame)
  pub close : Option Verdict

abbrev pub closing : Verdict → Played
closing verdict = record { shown = []; close = Some verdict }

abbrev pub showing : ℕ → List Frame → Played → Played
showing at frames later = record { shown = map (λ frame. (at, frame)) frames ++ later.shown; close = later.close }

-- play.again-limit: how many ticks may follow an input's first link, which may be a tick itself
abbrev pub ticks_after : Input → ℕ
ticks_after Tick = MOST_TICKS - 1
ticks_after _ = MOST_TICKS

-- what follows a chain
abbrev pub after_chain : {S : Type 0} → Links S → (S → Played) → Result S Stop → Played
after_chain links later (Err stop) = closing (Stopped stop)
after_chain links later (Ok state) = later (links.settled state)

-- a chain and what follows it
abbrev pub going_on : {S : Type 0} → Links S → ℕ → (S → Played) → Chain S → Played
going_on links at later chain = showing at chain.shown (after_chain links later chain.after)

-- play.stopped: what is shown for the inputs that are left, after `taken` inputs
unfoldable pub play_from : {S : Type 0} → Links S → ℕ → List Input → S → Played
play_from links taken [] state = closing (links.verdict state)
play_from links taken (input ∷ inputs) state =
    going_on links (taken + 1) (play_from links (taken + 1) inputs) (follow (ticks links.ticked (ticks_after input)) (links.begun input state))

-- the frames as items, numbered from n
unfoldable pub frames_as_items : ℕ → List (ℕ × Frame) → List Item
frames_as_items n [] = []
frames_as_items n (f ∷ fs) = item.Frame n f.1.kind f.0 f.1.level_text ∷ frames_as_items (n + 1) fs

-- play.at: the frames from number n on, and the close
unfoldable pub items_from : ℕ → Played → List Item
items_from n play_from = frames_as_items n play_from.shown ++ map item.Close (option_to_list play_from.close)
