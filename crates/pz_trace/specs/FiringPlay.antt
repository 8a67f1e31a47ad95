-- What is left of a block in play.
use Rattle.std.specs.Prelude.{◌≡◌, ℕ, suc, ◌+◌, ◌-◌, ◌<◌, Bool, true, false, ◌||◌, ◌&&◌, List, [], ◌∷◌, drop, length, Option, Some, None, nat_eq, nat_lt, if◌then◌else◌}
use Rattle.pz_game.specs.declared.rule_line.RuleLine.{RuleLine}
use Rattle.pz_program.specs.Instance.{AreGroupsOf}
use Rattle.pz_program.specs.declared.instance.Block.{Block}
use Rattle.pz_program.specs.declared.instance.Block.TheVariants.{One, Loop}
use Rattle.pz_program.specs.declared.instance.Instance.{Instance}
use Rattle.pz_sheet.specs.Grid.{Grid}
use Rattle.pz_turn.specs.declared.outcome.StepFault.{StepFault}
use Rattle.pz_turn.specs.declared.resting.TheConstants.{PASSES}
use Rattle.pz_trace.specs.declared.block_play.BlockPlay.{BlockPlay}
use Rattle.pz_trace.specs.declared.block_play.Spot.{Spot}
use Rattle.pz_trace.specs.declared.firing.Firing.{Firing}
use Rattle.pz_trace.specs.declared.firing.Moment.{Moment}
use Rattle.pz_trace.specs.Firings.{FiringState, Sequence, over, stop_sequence, with_firing_before, told_instance, told_each, told_rest, told_pass, told_group, told_round, nothing_later}

-- what is played: the rules that lines are told of, and the groups of a loop, or a group alone
pub record Setting : Type 0 where
  pub rules : List RuleLine
  pub groups : List (List Instance)
  pub is_loop : Bool

-- behind the groups of a round: a loop goes on if the round changed something
abbrev pub behind_round : Setting → Moment → Bool → Grid → Sequence
behind_round setting moment changed level =
    if setting.is_loop && changed
    then told_rest (told_round setting.rules setting.groups) (PASSES - 1 - moment.round) (suc moment.round) nothing_later level
    else over

-- behind a group: the groups after it
abbrev pub behind_group : Setting → Spot → List (List Instance) → Bool → Grid → Sequence
behind_group setting spot more changed level =
    told_each (told_group setting.rules spot.moment.round) (suc spot.moment.group) more (spot.round_changed || changed) (behind_round setting spot.moment) level

-- behind a pass of a group: the next pass if it changed something, or else the groups after it
abbrev pub behind_pass : Setting → Spot → List Instance → List (List Instance) → Bool → Grid → Sequence
behind_pass setting spot group more changed level =
    if changed
    then told_rest (told_pass setting.rules spot.moment.round spot.moment.group group) (PASSES - 1 - spot.moment.pass) (suc spot.moment.pass) (behind_group setting spot more) level
    else behind_group setting spot more (nat_lt 0 spot.moment.pass) level

-- the instance of this number, at this moment of a pass
abbrev pub moment_of : Moment → ℕ → Moment
moment_of moment number = record { round = moment.round; group = moment.group; pass = moment.pass; instance = number }

-- the instances of a pass from the next one on, and what follows them
abbrev pub left_of_pass : Setting → Spot → Grid → List Instance → List (List Instance) → Sequence
left_of_pass setting spot grid group more =
    told_each (λ number. told_instance setting.rules (moment_of spot.moment number)) spot.moment.instance
    (drop spot.moment.instance group) spot.pass_changed (behind_pass setting spot group more) grid

abbrev pub left_of_groups : Setting → Spot → Grid → List (List Instance) → Sequence
left_of_groups setting spot grid [] = over
left_of_groups setting spot grid (group ∷ more) = left_of_pass setting spot grid group more

-- from a spot on, on this level
abbrev pub sequence_from : Setting → Spot → Grid → Sequence
sequence_from setting spot grid = left_of_groups setting spot grid (drop spot.moment.group setting.groups)

abbrev pub setting_of : BlockPlay → Setting
setting_of play = record { rules = play.rules.now; groups = play.groups.now; is_loop = play.is_loop }

abbrev pub left_in : BlockPlay → Sequence
left_in play = sequence_from (setting_of play) play.spot play.level.grid

-- what is left, unless it has stopped
abbrev pub left_unless : Option StepFault → BlockPlay → Sequence
left_unless None play = left_in play
left_unless (Some fault) play = stop_sequence fault

-- no limit of passes is passed
pub record IsAllowed (spot : Spot) : Type 0 where
  pub pass : spot.moment.pass < PASSES
  pub round : spot.moment.round < PASSES

-- the instances are of the game
pub record IsPlayed (play : BlockPlay) : Type 0 where
  pub groups : AreGroupsOf play.level.grid.layers play.groups.now
  pub allowed : IsAllowed play.spot

-- behind an instance of a pass, which fires or doesn't
abbrev pub behind_instance_at : Spot → Bool → Spot
behind_instance_at spot fires = record {
  moment = moment_of spot.moment (spot.moment.instance + 1);
  pass_changed = spot.pass_changed || fires;
  round_changed = spot.round_changed;
}

-- where the next pass of a group begins
abbrev pub behind_pass_at : Spot → Spot
behind_pass_at spot = record {
  moment = record { round = spot.moment.round; group = spot.moment.group; pass = spot.moment.pass + 1; instance = 0 };
  pass_changed = false;
  round_changed = spot.round_changed;
}

-- where the group behind one begins, or the end of the round
abbrev pub behind_group_at : Spot → Spot
behind_group_at spot = record {
  moment = record { round = spot.moment.round; group = spot.moment.group + 1; pass = 0; instance = 0 };
  pass_changed = false;
  round_changed = spot.round_changed || nat_lt 0 spot.moment.pass;
}

-- where the next round of a loop begins
abbrev pub behind_round_at : Spot → Spot
behind_round_at spot = record {
  moment = record { round = spot.moment.round + 1; group = 0; pass = 0; instance = 0 };
  pass_changed = false;
  round_changed = false;
}

-- a loop goes round again behind its last group, if something changed in the round
abbrev pub goes_round : Setting → Spot → Bool
goes_round setting spot =
    setting.is_loop && ((spot.round_changed || nat_lt 0 spot.moment.pass) && nat_eq (spot.moment.group + 1) (length setting.groups))

-- where a block begins
abbrev pub first_spot : Spot
first_spot = record { moment = record { round = 0; group = 0; pass = 0; instance = 0 }; pass_changed = false; round_changed = false }

abbrev pub is_loop : Block → Bool
is_loop (One group) = false
is_loop (Loop groups) = true

-- what contracts see: the level after the firings so far, and those that are left
pub record Firings : Type 0 where
  pub level : Grid
  pub sequence : Sequence

-- a firing that a call answers, with the level after it
abbrev pub with_level : Firing → Grid → FiringState
with_level firing level =
    record { moment = firing.moment; line = firing.line; scan = firing.scan; gave = record { level = level; places = firing.places } }

-- an answer is the first of the firings that were left, and the level is the one after it
abbrev pub Yields : Sequence → Option Firing → Grid → Sequence → Type 0
Yields before None level after = (before ≡ over) × (after ≡ over)
Yields before (Some firing) level after = before ≡ with_firing_before (with_level firing level) after

-- an instance fires, or leaves the level to what follows it
abbrev pub YieldsOrNot : ((Bool → Grid → Sequence) → Sequence) → Option Firing → Grid → Type 0
YieldsOrNot before None level = (later : Bool → Grid → Sequence) → before later ≡ later false level
YieldsOrNot before (Some firing) level = (later : Bool → Grid → Sequence) → before later ≡ with_firing_before (with_level firing level) (later true level)

abbrev pub one_if : Bool → ℕ
one_if false = 0
one_if true = 1

abbrev pub another_if : Bool → ℕ → ℕ
another_if false groups = 0
another_if true groups = groups + 1

-- how many ends of passes may come before the next firing: that of this pass and of the groups behind it, and, if something has
-- changed, those of one more round
abbrev pub ends_left : Setting → Spot → ℕ
ends_left setting spot =
    one_if spot.pass_changed + (length setting.groups - spot.moment.group)
    + another_if (spot.pass_changed || (nat_lt 0 spot.moment.pass || spot.round_changed)) (length setting.groups)
