-- Where a block in play goes on.
use Rattle.std.proofs.Common.{◌≡◌, ℕ, suc, ◌+◌, ◌-◌, ◌<◌, ◌≤◌, Bool, true, false, ◌||◌, ◌&&◌, List, [], ◌∷◌, drop, length, get_or, Option, Some, None, add-one, refl, ap, sym, subst, ◌∙◌, arith}
use Rattle.std.proofs.Math.Bool.{or-false, or_comm}
use Rattle.std.proofs.lemmas.Bool.{and_parts}
use Rattle.std.proofs.lemmas.Bool.Decides.{nat_tests}
use Rattle.std.proofs.lemmas.List.{drop_all, drop_more, length-drop}
use Rattle.std.proofs.lemmas.List.Elements.{All-cons, All-nil}
use Rattle.std.proofs.lemmas.Option.{get_or_from_slice_get, slice_get_within}
use Rattle.std.specs.Prelude.{is_some, nat_eq, nat_lt, slice_get, if◌then◌else◌}
use Rattle.pz_game.specs.declared.rule_line.RuleLine.{RuleLine}
use Rattle.pz_program.specs.Instance.{AreGroupsOf, IsBlockOf, IsGroupOf, IsInstanceOf}
use Rattle.pz_program.specs.declared.instance.Block.{Block}
use Rattle.pz_program.specs.declared.instance.Block.TheVariants.{One, Loop}
use Rattle.pz_program.specs.declared.instance.Instance.{Instance}
use Rattle.pz_sheet.specs.Grid.{Grid, SameSize}
use Rattle.pz_turn.specs.declared.outcome.StepFault.{StepFault}
use Rattle.pz_turn.specs.declared.outcome.StepFault.TheVariants.{LoopLimit}
use Rattle.pz_turn.specs.declared.resting.TheConstants.{PASSES}
use Rattle.pz_trace.specs.declared.block_play.BlockPlay.{BlockPlay}
use Rattle.pz_trace.specs.declared.block_play.Spot.{Spot}
use Rattle.pz_trace.specs.declared.firing.Firing.{Firing}
use Rattle.pz_trace.specs.Firings.{Sequence, Telling, over, with_firing_before, stop_sequence, told_instance, told_each, told_pass, told_group, told_round, nothing_later}
unfoldable use Rattle.pz_trace.specs.Firings.{firings_of, told_rest}
use Rattle.pz_trace.specs.FiringPlay.{Setting, IsAllowed, IsPlayed, Yields, YieldsOrNot, behind_instance_at, setting_of, with_level, behind_round, behind_group, behind_pass, moment_of, left_of_pass, left_of_groups, sequence_from, behind_pass_at, behind_group_at, behind_round_at, goes_round, first_spot, is_loop, one_if, another_if, ends_left}
use Rattle.pz_trace.specs.SourceLines.{groups_of}

-- one pass, and those behind it
pub rest_more : (tells : ℕ → Telling) (left number : ℕ) (later : Bool → Grid → Sequence) (grid : Grid)
    → told_rest tells (suc left) number later grid ≡ tells number (λ changes level. if changes then told_rest tells left (suc number) later level else later (nat_lt 0 number) level) grid
unfolding told_rest
rest_more tells left number later grid = refl

rest_none : (tells : ℕ → Telling) (number : ℕ) (later : Bool → Grid → Sequence) (grid : Grid) → told_rest tells 0 number later grid ≡ stop_sequence LoopLimit
unfolding told_rest
rest_none tells number later grid = refl

-- where so many passes were made, one fewer is left behind the next
one_left : (tells : ℕ → Telling) (made : ℕ) (later : Bool → Grid → Sequence) (grid : Grid) → made + 1 < PASSES
    → told_rest tells (PASSES - 1 - made) (suc made) later grid
    ≡ tells (made + 1) (λ changes level. if changes then told_rest tells (PASSES - 1 - (made + 1)) (suc (made + 1)) later level else later (nat_lt 0 (made + 1)) level) grid
one_left tells made later grid allowed =
    let left : PASSES - 1 - made ≡ suc (PASSES - 1 - (made + 1)) = omega (arith, allowed) in
    ap (λ (n : ℕ). told_rest tells n (suc made) later grid) left
    ∙ ap (λ (n : ℕ). told_rest tells (suc (PASSES - 1 - (made + 1))) n later grid) (sym (add-one made))
    ∙ rest_more tells (PASSES - 1 - (made + 1)) (made + 1) later grid

no_left : (tells : ℕ → Telling) (made : ℕ) (later : Bool → Grid → Sequence) (grid : Grid) → made + 1 ≡ PASSES → told_rest tells (PASSES - 1 - made) (suc made) later grid ≡ stop_sequence LoopLimit
no_left tells made later grid last =
    let left : PASSES - 1 - made ≡ 0 = omega (arith, last) in
    ap (λ (n : ℕ). told_rest tells n (suc made) later grid) left ∙ rest_none tells (suc made) later grid

-- where a group begins
abbrev start : ℕ → ℕ → Bool → Spot
start round number changed = record { moment = record { round = round; group = number; pass = 0; instance = 0 }; pass_changed = false; round_changed = changed }

-- a group that begins, with those behind it
begin_group : (setting : Setting) (round number : ℕ) (changed : Bool) (grid : Grid) (group : List Instance) (more : List (List Instance))
    → left_of_pass setting (start round number changed) grid group more
    ≡ told_each (told_group setting.rules round) number (group ∷ more) changed (behind_round setting (start round number changed).moment) grid
begin_group setting round number changed grid group more =
    sym (rest_more (told_pass setting.rules round number group) 199 0 (behind_group setting (start round number changed) more) grid)

-- groups that begin, where none goes on with the round
begin_groups : (setting : Setting) (round number : ℕ) (changed : Bool) (grid : Grid) (groups : List (List Instance)) → (groups ≡ [] → (setting.is_loop && changed) ≡ false)
    → left_of_groups setting (start round number changed) grid groups
    ≡ told_each (told_group setting.rules round) number groups changed (behind_round setting (start round number changed).moment) grid
begin_groups setting round number changed grid [] ends =
    ap (λ (b : Bool). if b then told_rest (told_round setting.rules setting.groups) (PASSES - 1 - round) (suc round) nothing_later grid else over) (sym (ends refl))
begin_groups setting round number changed grid (group ∷ more) ends = begin_group setting round number changed grid group more

-- a block begins
pub begins : (rules : List RuleLine) (block : Block) (grid : Grid) → sequence_from (record { rules = rules; groups = groups_of block; is_loop = is_loop block }) first_spot grid ≡ firings_of rules block grid
unfolding firings_of
begins rules (One group) grid = begin_group (record { rules = rules; groups = group ∷ []; is_loop = false }) 0 0 false grid group []
begins rules (Loop groups) grid =
    begin_groups (record { rules = rules; groups = groups; is_loop = true }) 0 0 false grid groups (λ none. refl)
    ∙ sym (rest_more (told_round rules groups) 199 0 nothing_later grid)

pub groups_of_block : (layers : List ℕ) (block : Block) → IsBlockOf layers block → AreGroupsOf layers (groups_of block)
groups_of_block layers (One group) of_game = All-cons (IsGroupOf layers) group [] of_game (All-nil (IsGroupOf layers))
groups_of_block layers (Loop groups) of_game = of_game

-- the items from this one on, where there is one
from_here : {X : Type 0} (items : List X) (number : ℕ) (item : X) → slice_get items number ≡ Some item → drop number items ≡ item ∷ drop (number + 1) items
from_here {X} items number item is =
    let within = slice_get_within items number item is in
    let same : get_or items number item ≡ item = get_or_from_slice_get items number item item is in
    drop_more items number item within ∙ ap (λ (first : X). first ∷ drop (number + 1) items) same

-- ---- in a pass
module _ (setting : Setting) (spot : Spot) (group : List Instance) (is : slice_get setting.groups spot.moment.group ≡ Some group) (instance : Instance) (at : slice_get group spot.moment.instance ≡ Some instance) where
  -- what follows the instance
  abbrev behind : Bool → Grid → Sequence
  behind changes level =
      told_each (λ number. told_instance setting.rules (moment_of spot.moment number)) (suc spot.moment.instance) (drop (spot.moment.instance + 1) group) (spot.pass_changed || changes)
      (behind_pass setting spot group (drop (spot.moment.group + 1) setting.groups)) level

  instance_first : (grid : Grid) → sequence_from setting spot grid ≡ told_instance setting.rules spot.moment instance behind grid
  instance_first grid =
      ap (left_of_groups setting spot grid) (from_here setting.groups spot.moment.group group is)
      ∙ ap (λ (instances : List Instance). told_each (λ number. told_instance setting.rules (moment_of spot.moment number)) spot.moment.instance instances spot.pass_changed (behind_pass setting spot group (drop (spot.moment.group + 1) setting.groups)) grid) (from_here group spot.moment.instance instance at)

  instance_on : (changes : Bool) (level : Grid) → behind changes level ≡ sequence_from setting (behind_instance_at spot changes) level
  instance_on changes level =
      ap (λ (n : ℕ). told_each (λ number. told_instance setting.rules (moment_of spot.moment number)) n (drop (spot.moment.instance + 1) group) (spot.pass_changed || changes)
      (behind_pass setting spot group (drop (spot.moment.group + 1) setting.groups)) level) (sym (add-one spot.moment.instance))
      ∙ ap (left_of_groups setting (behind_instance_at spot changes) level) (sym (from_here setting.groups spot.moment.group group is))

  pub instance_fires : (grid level : Grid) (firing : Option Firing) → YieldsOrNot (λ later. told_instance setting.rules spot.moment instance later grid) firing level
      → is_some firing ≡ true → Yields (sequence_from setting spot grid) firing level (sequence_from setting (behind_instance_at spot (is_some firing)) level)
  instance_fires grid level None yields some = absurd cc
  instance_fires grid level (Some firing) yields some = instance_first grid ∙ yields behind ∙ ap (with_firing_before (with_level firing level)) (instance_on true level)

  pub instance_rests : (grid level : Grid) (firing : Option Firing) → YieldsOrNot (λ later. told_instance setting.rules spot.moment instance later grid) firing level
      → is_some firing ≡ false → sequence_from setting (behind_instance_at spot (is_some firing)) level ≡ sequence_from setting spot grid
  instance_rests grid level (Some firing) yields none = absurd cc
  instance_rests grid level None yields none = sym (instance_first grid ∙ yields behind ∙ instance_on false level)

  pub instance_stops : (grid : Grid) (fault : StepFault) → ((later : Bool → Grid → Sequence) → told_instance setting.rules spot.moment instance later grid ≡ stop_sequence fault) → sequence_from setting spot grid ≡ stop_sequence fault
  instance_stops grid fault stops = instance_first grid ∙ stops behind

-- an instance that doesn't fire leaves as many ends of passes
pub ends_stay : (setting : Setting) (spot : Spot) → ends_left setting (behind_instance_at spot false) ≡ ends_left setting spot
ends_stay setting spot =
    ap (λ (b : Bool). one_if b + (length setting.groups - spot.moment.group) + another_if (b || (nat_lt 0 spot.moment.pass || spot.round_changed)) (length setting.groups)) (or-false spot.pass_changed)

-- it is of the game
pub instance_of_game : (layers : List ℕ) (groups : List (List Instance)) (number at : ℕ) (group : List Instance) (instance : Instance) → AreGroupsOf layers groups → slice_get groups number ≡ Some group → slice_get group at ≡ Some instance → IsInstanceOf layers instance
instance_of_game layers groups number at group instance of_game is here =
    let group_of : IsGroupOf layers group = subst (IsGroupOf layers) (get_or_from_slice_get groups number group group is) (of_game number group (slice_get_within groups number group is)) in
    subst (IsInstanceOf layers) (get_or_from_slice_get group at instance instance here) (group_of at instance (slice_get_within group at instance here))

-- what is played stays of the game
pub played_on : (play next : BlockPlay) → IsPlayed play → setting_of next ≡ setting_of play → SameSize play.level.grid next.level.grid → IsAllowed next.spot → IsPlayed next
played_on play next played same size allowed = record {
  groups =
      subst (λ (layers : List ℕ). AreGroupsOf layers next.groups.now) (sym size.layers)
      (subst (AreGroupsOf play.level.grid.layers) (sym (ap (λ (setting : Setting). setting.groups) same)) played.groups);
  allowed = allowed;
}

-- ---- behind a pass
module _ (setting : Setting) (spot : Spot) (grid : Grid) (group : List Instance) (is : slice_get setting.groups spot.moment.group ≡ Some group) (end : length group ≤ spot.moment.instance) where
  abbrev more : List (List Instance)
  more = drop (spot.moment.group + 1) setting.groups

  -- nothing is left of the pass
  at_end : sequence_from setting spot grid ≡ behind_pass setting spot group more spot.pass_changed grid
  at_end =
      ap (left_of_groups setting spot grid) (from_here setting.groups spot.moment.group group is)
      ∙ ap (λ (instances : List Instance). told_each (λ number. told_instance setting.rules (moment_of spot.moment number)) spot.moment.instance instances spot.pass_changed (behind_pass setting spot group more) grid) (drop_all spot.moment.instance group end)

  changed_end : spot.pass_changed ≡ true
      → sequence_from setting spot grid ≡ told_rest (told_pass setting.rules spot.moment.round spot.moment.group group) (PASSES - 1 - spot.moment.pass) (suc spot.moment.pass) (behind_group setting spot more) grid
  changed_end changed = at_end ∙ ap (λ (b : Bool). behind_pass setting spot group more b grid) changed

  pub pass_goes_on : (next : Spot) → next ≡ behind_pass_at spot → IsAllowed next → spot.pass_changed ≡ true → sequence_from setting next grid ≡ sequence_from setting spot grid
  pass_goes_on next at allowed changed =
      let pass : next.moment.pass ≡ spot.moment.pass + 1 = ap (λ (s : Spot). s.moment.pass) at in
      let here : sequence_from setting (behind_pass_at spot) grid ≡ left_of_pass setting (behind_pass_at spot) grid group more = ap (left_of_groups setting (behind_pass_at spot) grid) (from_here setting.groups spot.moment.group group is) in
      ap (λ (s : Spot). sequence_from setting s grid) at ∙ here
      ∙ sym (changed_end changed ∙ one_left (told_pass setting.rules spot.moment.round spot.moment.group group) spot.moment.pass (behind_group setting spot more) grid (omega (arith, pass, allowed.pass)))

  pub pass_stops : spot.moment.pass + 1 ≡ PASSES → spot.pass_changed ≡ true → sequence_from setting spot grid ≡ stop_sequence LoopLimit
  pass_stops last changed = changed_end changed ∙ no_left (told_pass setting.rules spot.moment.round spot.moment.group group) spot.moment.pass (behind_group setting spot more) grid last

  -- the group is at rest
  abbrev changed : Bool
  changed = spot.round_changed || nat_lt 0 spot.moment.pass

  quiet_end : spot.pass_changed ≡ false → sequence_from setting spot grid ≡ told_each (told_group setting.rules spot.moment.round) (suc spot.moment.group) more changed (behind_round setting spot.moment) grid
  quiet_end quiet = at_end ∙ ap (λ (b : Bool). behind_pass setting spot group more b grid) quiet

  -- behind the last group nothing goes on, unless the round does
  ends_round : goes_round setting spot ≡ false → more ≡ [] → (setting.is_loop && changed) ≡ false
  ends_round stays none =
      let within = slice_get_within setting.groups spot.moment.group group is in
      let all = length-drop (spot.moment.group + 1) setting.groups in
      let last : spot.moment.group + 1 ≡ length setting.groups = omega (arith, within, all, ap length none) in
      grind (arith, nat_tests, last, stays)

  pub group_goes_on : spot.pass_changed ≡ false → goes_round setting spot ≡ false → sequence_from setting (behind_group_at spot) grid ≡ sequence_from setting spot grid
  group_goes_on quiet stays =
      begin_groups setting spot.moment.round (spot.moment.group + 1) changed grid more (ends_round stays)
      ∙ ap (λ (n : ℕ). told_each (told_group setting.rules spot.moment.round) n more changed (behind_round setting spot.moment) grid) (add-one spot.moment.group)
      ∙ sym (quiet_end quiet)

  -- the round goes on
  round_end : spot.pass_changed ≡ false → goes_round setting spot ≡ true
      → sequence_from setting spot grid ≡ told_rest (told_round setting.rules setting.groups) (PASSES - 1 - spot.moment.round) (suc spot.moment.round) nothing_later grid
  round_end quiet round =
      let loops = and_parts setting.is_loop (changed && nat_eq (spot.moment.group + 1) (length setting.groups)) round in
      let ends = and_parts changed (nat_eq (spot.moment.group + 1) (length setting.groups)) loops.1 in
      let last : length setting.groups ≤ spot.moment.group + 1 = grind (arith, nat_tests, ends.1) in
      quiet_end quiet
      ∙ ap (λ (groups : List (List Instance)). told_each (told_group setting.rules spot.moment.round) (suc spot.moment.group) groups changed (behind_round setting spot.moment) grid) (drop_all (spot.moment.group + 1) setting.groups last)
      ∙ (λ i. if loops.0 i && ends.0 i then told_rest (told_round setting.rules setting.groups) (PASSES - 1 - spot.moment.round) (suc spot.moment.round) nothing_later grid else over)

  pub round_goes_on : (next : Spot) → next ≡ behind_round_at spot → IsAllowed next → spot.pass_changed ≡ false → goes_round setting spot ≡ true → sequence_from setting next grid ≡ sequence_from setting spot grid
  round_goes_on next at allowed quiet round =
      let number : next.moment.round ≡ spot.moment.round + 1 = ap (λ (s : Spot). s.moment.round) at in
      let loops = and_parts setting.is_loop (changed && nat_eq (spot.moment.group + 1) (length setting.groups)) round in
      let begun = begin_groups setting (spot.moment.round + 1) 0 false grid setting.groups (λ none. grind (arith, loops.0)) in
      ap (λ (s : Spot). sequence_from setting s grid) at ∙ begun
      ∙ (λ i. told_each (told_group setting.rules (spot.moment.round + 1)) 0 setting.groups false (λ changes level. if loops.0 i && changes then told_rest (told_round setting.rules setting.groups) (PASSES - 1 - (spot.moment.round + 1)) (suc (spot.moment.round + 1)) nothing_later level else over) grid)
      ∙ sym (round_end quiet round ∙ one_left (told_round setting.rules setting.groups) spot.moment.round nothing_later grid (omega (arith, number, allowed.round)))

  pub round_stops : spot.moment.round + 1 ≡ PASSES → spot.pass_changed ≡ false → goes_round setting spot ≡ true → sequence_from setting spot grid ≡ stop_sequence LoopLimit
  round_stops last quiet round = round_end quiet round ∙ no_left (told_round setting.rules setting.groups) spot.moment.round nothing_later grid last

-- ---- fewer ends of passes are left
another_most : (b : Bool) (groups : ℕ) → another_if b groups ≤ groups + 1
another_most true groups = omega arith
another_most false groups = omega arith

pub fewer_behind_pass : (setting : Setting) (spot next : Spot) → next ≡ behind_pass_at spot → spot.pass_changed ≡ true → ends_left setting next < ends_left setting spot
fewer_behind_pass setting spot next at changed =
    let groups = length setting.groups in
    let before : ends_left setting spot ≡ 1 + (groups - spot.moment.group) + (groups + 1) = ap (λ (b : Bool). one_if b + (groups - spot.moment.group) + another_if (b || (nat_lt 0 spot.moment.pass || spot.round_changed)) groups) changed in
    let after : ends_left setting next ≡ ends_left setting (behind_pass_at spot) = ap (ends_left setting) at in
    omega (arith, before, after, another_most (nat_lt 0 (spot.moment.pass + 1) || spot.round_changed) groups)

quiet_ends : (setting : Setting) (spot : Spot) → spot.pass_changed ≡ false
    → ends_left setting spot ≡ 0 + (length setting.groups - spot.moment.group) + another_if (spot.round_changed || nat_lt 0 spot.moment.pass) (length setting.groups)
quiet_ends setting spot quiet =
    let groups = length setting.groups in
    ap (λ (b : Bool). one_if b + (groups - spot.moment.group) + another_if (b || (nat_lt 0 spot.moment.pass || spot.round_changed)) groups) quiet
    ∙ ap (λ (b : Bool). 0 + (groups - spot.moment.group) + another_if b groups) (or_comm (nat_lt 0 spot.moment.pass) spot.round_changed)

pub fewer_behind_group : (setting : Setting) (spot : Spot) → spot.moment.group < length setting.groups → spot.pass_changed ≡ false → ends_left setting (behind_group_at spot) < ends_left setting spot
fewer_behind_group setting spot within quiet = omega (arith, within, quiet_ends setting spot quiet)

pub fewer_behind_round : (setting : Setting) (spot next : Spot) → next ≡ behind_round_at spot → spot.pass_changed ≡ false → goes_round setting spot ≡ true → ends_left setting next < ends_left setting spot
fewer_behind_round setting spot next at quiet round =
    let groups = length setting.groups in
    let changed = spot.round_changed || nat_lt 0 spot.moment.pass in
    let loops = and_parts setting.is_loop (changed && nat_eq (spot.moment.group + 1) groups) round in
    let ends = and_parts changed (nat_eq (spot.moment.group + 1) groups) loops.1 in
    let after : ends_left setting next ≡ ends_left setting (behind_round_at spot) = ap (ends_left setting) at in
    omega (arith, after, quiet_ends setting spot quiet, ap (λ (b : Bool). another_if b groups) ends.0)

pub none_is : {X : Type 0} (o : Option X) → is_some o ≡ false → o ≡ None
none_is None none = refl
none_is (Some x) none = absurd cc
