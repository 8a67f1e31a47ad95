-- The firings of a block. An instance fires if it changes a cell. While a block runs to rest its instances are applied one after
-- another, pass after pass, and each that fires is told: when, of which line of the source, at which places, and with the level
-- that it left. An instance that stops ends the firings, and so does a run that finds no rest.
use Rattle.std.specs.Prelude.{ℕ, zero, suc, Bool, true, false, ◌||◌, List, [], ◌∷◌, ◌++◌, fold, length, Option, Some, None, Result, Ok, Err, nat_lt, if◌then◌else◌}
use Rattle.pz_game.specs.declared.direction.Dir.{Dir}
use Rattle.pz_game.specs.declared.rule_line.RuleLine.{RuleLine}
use Rattle.pz_program.specs.declared.instance.Instance.{Instance}
use Rattle.pz_program.specs.declared.instance.Block.{Block}
use Rattle.pz_program.specs.declared.instance.Block.TheVariants.{One, Loop}
use Rattle.pz_sheet.specs.Grid.{Grid}
use Rattle.pz_grid.specs.declared.placing.Place.{Place}
use Rattle.pz_grid.specs.Rewriting.{in_rewrite}
use Rattle.pz_turn.specs.declared.applying.TheConstants.{COMBINATION_LIMIT}
use Rattle.pz_turn.specs.declared.outcome.StepFault.{StepFault}
use Rattle.pz_turn.specs.declared.outcome.StepFault.TheVariants.{LoopLimit, MatchLimit}
use Rattle.pz_turn.specs.declared.resting.TheConstants.{PASSES}
use Rattle.pz_turn.specs.Combinations.{combinations}
use Rattle.pz_turn.specs.Applying.{places_of_rows, applied_at}
use Rattle.pz_trace.specs.declared.firing.Moment.{Moment}
use Rattle.pz_trace.specs.SourceLines.{line_of}

-- ---- what one instance does

-- the level after an instance, and the combinations of places at which it changed a cell, in order
pub record Fired : Type 0 where
  pub level : Grid
  pub places : List (List Place)

abbrev pub are_some : {X : Type 0} → List X → Bool
are_some [] = false
are_some (first ∷ more) = true

-- stages.fires: it fires if it changes a cell somewhere
abbrev pub has_fired : Fired → Bool
has_fired firing_of = are_some firing_of.places

-- a combination, if it changed a cell
abbrev pub told_if : Bool → List Place → List (List Place)
told_if false places = []
told_if true places = places ∷ []

-- one combination more: its rows are tested again in the level so far
abbrev pub fired_at : Instance → Fired → List Place → Fired
fired_at instance so_far places =
    let next = applied_at instance (in_rewrite so_far.level false) places in
    record { level = next.grid; places = so_far.places ++ told_if next.changed places }

abbrev pub fired_to : Instance → Grid → List (List Place) → Result Fired StepFault
fired_to instance grid all =
    if nat_lt COMBINATION_LIMIT (length all)
    then Err MatchLimit
    else Ok (fold (fired_at instance) (record { level = grid; places = [] }) all)

abbrev pub fired_with : Instance → Grid → Result (List (List Place)) StepFault → Result Fired StepFault
fired_with instance grid (Err fault) = Err fault
fired_with instance grid (Ok lists) = fired_to instance grid (combinations lists)

-- an instance, applied to a level
unfoldable pub firing_of : Instance → Grid → Result Fired StepFault
firing_of instance grid = fired_with instance grid (places_of_rows grid instance.scan instance.left)

-- ---- what a block does

-- a firing: when, of which line and direction, and what it did
pub record FiringState : Type 0 where
  pub moment : Moment
  pub line : ℕ
  pub scan : Dir
  pub gave : Fired

-- firings in order, and the stop, if there was one
pub record Sequence : Type 0 where
  pub firings : List FiringState
  pub stop : Option StepFault

-- nothing more
abbrev pub over : Sequence
over = record { firings = []; stop = None }

abbrev pub stop_sequence : StepFault → Sequence
stop_sequence fault = record { firings = []; stop = Some fault }

abbrev pub with_firing_before : FiringState → Sequence → Sequence
with_firing_before firing later = record { firings = firing ∷ later.firings; stop = later.stop }

-- what is told of a run from a level on, with what follows it: that knows whether the run changed something, and the level that it
-- left
abbrev pub Telling : Type 0
Telling = (Bool → Grid → Sequence) → Grid → Sequence

-- what an instance did, if it fired, and what follows it
abbrev pub firing_and_later : (Fired → FiringState) → (Bool → Grid → Sequence) → Result Fired StepFault → Sequence
firing_and_later firing later (Err fault) = stop_sequence fault
firing_and_later firing later (Ok gave) = if has_fired gave then with_firing_before (firing gave) (later true gave.level) else later false gave.level

-- stages.firings
abbrev pub told_instance : List RuleLine → Moment → Instance → Telling
told_instance rules moment instance later grid =
    firing_and_later (λ gave. record { moment = moment; line = line_of rules instance; scan = instance.scan; gave = gave }) later (firing_of instance grid)

-- a pass: each item in order, the first with this number; `changed` says whether those before it changed something
abbrev pub told_each : {I : Type 0} → (ℕ → I → Telling) → ℕ → List I → Bool → Telling
told_each tells number [] changed later grid = later changed grid
told_each tells number (item ∷ more) changed later grid =
    tells number item (λ changes level. told_each tells (suc number) more (changed || changes) later level) grid

-- passes, the first with this number, up to the first that changes nothing; so many are left
unfoldable pub told_rest : (ℕ → Telling) → ℕ → ℕ → Telling
told_rest tells zero number later grid = stop_sequence LoopLimit
told_rest tells (suc left) number later grid =
    tells number (λ changes level. if changes then told_rest tells left (suc number) later level else later (nat_lt 0 number) level) grid

-- a pass of a group of this number, in this round
abbrev pub told_pass : List RuleLine → ℕ → ℕ → List Instance → ℕ → Telling
told_pass rules round group instances pass =
    told_each (λ number. told_instance rules (record { round = round; group = group; pass = pass; instance = number })) 0 instances false

abbrev pub told_group : List RuleLine → ℕ → ℕ → List Instance → Telling
told_group rules round group instances = told_rest (told_pass rules round group instances) PASSES 0

-- a round of a loop
abbrev pub told_round : List RuleLine → List (List Instance) → ℕ → Telling
told_round rules groups round = told_each (told_group rules round) 0 groups false

-- nothing follows
abbrev pub nothing_later : Bool → Grid → Sequence
nothing_later changed level = over

-- stages.firings: the firings of a block. A group that is in no loop counts as group 0 of round 0.
unfoldable pub firings_of : List RuleLine → Block → Grid → Sequence
firings_of rules (One group) grid = told_group rules 0 0 group nothing_later grid
firings_of rules (Loop groups) grid = told_rest (told_round rules groups) PASSES 0 nothing_later grid
