-- The firings of a block end as the block does.
use Rattle.std.proofs.Common.{◌≡◌, ℕ, zero, suc, Bool, true, false, ◌||◌, List, [], ◌∷◌, Result, Ok, Err, fold, refl, ap, ap₂, sym, ◌∙◌, arith}
use Rattle.std.proofs.Math.Bool.{or-false, or-true, or_assoc}
use Rattle.std.specs.Prelude.{nat_lt, if◌then◌else◌}
use Rattle.pz_game.specs.declared.direction.Dir.{Dir}
use Rattle.pz_game.specs.declared.rule_line.RuleLine.{RuleLine}
use Rattle.pz_program.specs.declared.instance.Instance.{Instance}
use Rattle.pz_program.specs.declared.instance.Block.{Block}
use Rattle.pz_program.specs.declared.instance.Block.TheVariants.{One, Loop}
use Rattle.pz_sheet.specs.Grid.{Grid}
use Rattle.pz_grid.specs.declared.placing.Place.{Place}
use Rattle.pz_turn.specs.declared.outcome.StepFault.{StepFault}
use Rattle.pz_turn.specs.declared.resting.TheConstants.{PASSES}
use Rattle.pz_turn.specs.Outcome.{Outcome, outcome_behind, followed_by}
use Rattle.pz_turn.specs.Rest.{Runs, pass_of, rest_of, group_runs}
use Rattle.pz_turn.specs.Applying.{application_of}
unfoldable use Rattle.pz_turn.specs.Step.{block_runs}
use Rattle.pz_turn.proofs.Segments.{follow_pass}
use Rattle.pz_turn.proofs.Unchanged.{Leaves, applied_leaves}
use Rattle.pz_trace.proofs.Applying.{Agrees, agrees}
use Rattle.pz_trace.proofs.Resting.{joined_untouched, rested, rest_by_first, none_allowed}
use Rattle.pz_trace.specs.declared.firing.Moment.{Moment}
use Rattle.pz_trace.specs.Firings.{Fired, FiringState, Sequence, Telling, are_some, firing_of, firing_and_later, told_instance, told_each, told_pass, told_group, told_round, nothing_later}
unfoldable use Rattle.pz_trace.specs.Firings.{firings_of, told_rest}
use Rattle.pz_trace.specs.FiringLaws.{Left, end_behind, without_commands, end_in}

abbrev on_ok : (Outcome Grid → Result Left StepFault) → Result (Outcome Grid) StepFault → Result Left StepFault
on_ok f (Err fault) = Err fault
on_ok f (Ok o) = f o

-- a level, and whether something has fired
abbrev at : Grid → Bool → Left
at level changed = record { level = level; changed = changed }

abbrev Later : Type 0
Later = Bool → Grid → Sequence

-- how what follows this outcome ends
abbrev then_later : Later → Bool → Bool → Outcome Grid → Result Left StepFault
then_later later any changed gave = end_behind (at gave.level (any || gave.changed)) (later (changed || gave.changed) gave.level)

-- what is told ends as what runs, and what follows it
abbrev Ends : Telling → Runs Grid → Type 0
Ends tells runs = (later : Later) (grid : Grid) (any : Bool) → end_behind (at grid any) (tells later grid) ≡ on_ok (then_later later any false) (runs grid)

-- ---- an instance
module _ (moment : Moment) (line : ℕ) (scan : Dir) (later : Later) (grid : Grid) (any : Bool) where
  abbrev firing : Fired → FiringState
  firing gave = record { moment = moment; line = line; scan = scan; gave = gave }

  fired_ends : (gave : Outcome Grid) (level : Grid) (places : List (List Place)) → gave.level ≡ level → gave.changed ≡ are_some places → (gave.changed ≡ false → gave.level ≡ grid)
      → end_behind (at grid any) (firing_and_later firing later (Ok (record { level = level; places = places }))) ≡ then_later later any false gave
  fired_ends gave level [] same changes keeps = grind (arith, same, changes, keeps, or-false any)
  fired_ends gave level (first ∷ more) same changes keeps = grind (arith, same, changes, or-true any)

  told_ends : (runs : Result (Outcome Grid) StepFault) (gave : Result Fired StepFault) → Agrees runs gave → Leaves grid runs
      → end_behind (at grid any) (firing_and_later firing later gave) ≡ on_ok (then_later later any false) runs
  told_ends (Err fault) (Err other) same leaves = ap Err (sym same)
  told_ends (Ok gave) (Ok firing_and_later) both leaves = fired_ends gave firing_and_later.level firing_and_later.places both.0 both.1 (λ none. leaves gave refl none)
  told_ends (Err fault) (Ok firing_and_later) never leaves = absurd never
  told_ends (Ok gave) (Err fault) never leaves = absurd never

instance_ends : (rules : List RuleLine) (moment : Moment) (instance : Instance) → Ends (told_instance rules moment instance) (application_of instance)
instance_ends rules moment instance later grid any = told_ends moment _ instance.scan later grid any (application_of instance grid) (firing_of instance grid) (agrees instance grid) (applied_leaves instance grid)

-- ---- a pass
module _ {I : Type 0} (tells : ℕ → I → Telling) (runs : I → Runs Grid) (each : (number : ℕ) (item : I) → Ends (tells number item) (runs item)) where
  -- two outcomes, one after the other
  twice : (later : Later) (any changed : Bool) (first : Outcome Grid) (r : Result (Outcome Grid) StepFault)
      → on_ok (then_later later (any || first.changed) (changed || first.changed)) r ≡ on_ok (then_later later any changed) (outcome_behind first r)
  twice later any changed first (Err fault) = refl
  twice later any changed first (Ok second) =
      ap₂ (λ (a c : Bool). end_behind (at second.level a) (later c second.level)) (or_assoc any first.changed second.changed) (or_assoc changed first.changed second.changed)

  abbrev Each : List I → Type 0
  Each items = (number : ℕ) (changed : Bool) (later : Later) (grid : Grid) (any : Bool)
      → end_behind (at grid any) (told_each tells number items changed later grid) ≡ on_ok (then_later later any changed) (pass_of runs items grid)

  behind_one : (more : List I) → Each more → (number : ℕ) (changed : Bool) (later : Later) (any : Bool) (r : Result (Outcome Grid) StepFault)
      → on_ok (then_later (λ changes level. told_each tells (suc number) more (changed || changes) later level) any false) r ≡ on_ok (then_later later any changed) (followed_by r (pass_of runs more))
  behind_one more ends number changed later any (Err fault) = refl
  behind_one more ends number changed later any (Ok first) =
      ends (suc number) (changed || first.changed) later first.level (any || first.changed) ∙ twice later any changed first (pass_of runs more first.level)

  pub each_ends : (items : List I) → Each items
  each_ends [] number changed later grid any = ap₂ (λ (a c : Bool). end_behind (at grid a) (later c grid)) (sym (or-false any)) (sym (or-false changed))
  each_ends (item ∷ more) number changed later grid any =
      each number item (λ changes level. told_each tells (suc number) more (changed || changes) later level) grid any
      ∙ behind_one more (each_ends more) number changed later any (runs item grid)
      ∙ ap (on_ok (then_later later any changed)) (follow_pass runs (runs item grid) more ∙ ap (λ (r : Result (Outcome Grid) StepFault). fold (λ so_far x. followed_by so_far (runs x)) r more) (sym (joined_untouched grid (runs item grid))))

  pub pass_ends : (items : List I) → Ends (told_each tells 0 items false) (pass_of runs items)
  pass_ends items later grid any = each_ends items 0 false later grid any

-- ---- a run to rest
module _ (tells : ℕ → Telling) (runs : Runs Grid) (each : (number : ℕ) → Ends (tells number) runs) where
  abbrev Rests : ℕ → Type 0
  Rests left = (number : ℕ) (later : Later) (grid : Grid) (any : Bool)
      → end_behind (at grid any) (told_rest tells left number later grid) ≡ on_ok (then_later later any (nat_lt 0 number)) (rest_of left runs grid)

  -- behind a first pass that changed something
  twice_more : (number : ℕ) (later : Later) (any : Bool) (first : Outcome Grid) (r : Result (Outcome Grid) StepFault) → first.changed ≡ true
      → on_ok (then_later later (any || true) (nat_lt 0 (suc number))) r ≡ on_ok (then_later later any (nat_lt 0 number)) (outcome_behind first r)
  twice_more number later any first (Err fault) changes = refl
  twice_more number later any first (Ok second) changes = grind (arith, changes, or-true any, or-true (nat_lt 0 number))

  behind_first : (left : ℕ) → Rests left → (number : ℕ) (later : Later) (any : Bool) (first : Outcome Grid) (b : Bool) → first.changed ≡ b
      → end_behind (at first.level (any || b)) (if b then told_rest tells left (suc number) later first.level else later (nat_lt 0 number) first.level)
      ≡ on_ok (then_later later any (nat_lt 0 number)) (if b then outcome_behind first (rest_of left runs first.level) else Ok first)
  behind_first left ends number later any first true changes = ends (suc number) later first.level (any || true) ∙ twice_more number later any first (rest_of left runs first.level) changes
  behind_first left ends number later any first false none = grind (arith, none, or-false (nat_lt 0 number))

  behind_pass : (left : ℕ) → Rests left → (number : ℕ) (later : Later) (any : Bool) (r : Result (Outcome Grid) StepFault)
      → on_ok (then_later (λ changes level. if changes then told_rest tells left (suc number) later level else later (nat_lt 0 number) level) any false) r
      ≡ on_ok (then_later later any (nat_lt 0 number)) (rested left runs r)
  behind_pass left ends number later any (Err fault) = refl
  behind_pass left ends number later any (Ok first) = behind_first left ends number later any first first.changed refl

  pub rest_ends : (left : ℕ) → Rests left
  unfolding told_rest
  rest_ends zero number later grid any = ap (on_ok (then_later later any (nat_lt 0 number))) (sym (none_allowed runs grid))
  rest_ends (suc left) number later grid any =
      each number (λ changes level. if changes then told_rest tells left (suc number) later level else later (nat_lt 0 number) level) grid any
      ∙ behind_pass left (rest_ends left) number later any (runs grid)
      ∙ ap (on_ok (then_later later any (nat_lt 0 number))) (sym (rest_by_first left runs grid))

-- ---- a block
group_ends : (rules : List RuleLine) (round number : ℕ) (group : List Instance) → Ends (told_group rules round number group) (group_runs PASSES application_of group)
group_ends rules round number group later grid any =
    rest_ends (told_pass rules round number group) (pass_of application_of group)
    (λ pass. pass_ends (λ at. told_instance rules (record { round = round; group = number; pass = pass; instance = at })) application_of (λ at. instance_ends rules (record { round = round; group = number; pass = pass; instance = at })) group)
    PASSES 0 later grid any

round_ends : (rules : List RuleLine) (groups : List (List Instance)) (round : ℕ) → Ends (told_round rules groups round) (pass_of (group_runs PASSES application_of) groups)
round_ends rules groups round = pass_ends (told_group rules round) (group_runs PASSES application_of) (group_ends rules round) groups

ok_ends : (grid : Grid) (r : Result (Outcome Grid) StepFault) → on_ok (then_later nothing_later false false) r ≡ without_commands r
ok_ends grid (Err fault) = refl
ok_ends grid (Ok gave) = refl

pub firings_end : (rules : List RuleLine) (block : Block) (grid : Grid) → end_in grid (firings_of rules block grid) ≡ without_commands (block_runs block grid)
unfolding firings_of block_runs
firings_end rules (One group) grid = group_ends rules 0 0 group nothing_later grid false ∙ ok_ends grid (group_runs PASSES application_of group grid)
firings_end rules (Loop groups) grid =
    rest_ends (told_round rules groups) (pass_of (group_runs PASSES application_of) groups) (round_ends rules groups) PASSES 0 nothing_later grid false
    ∙ ok_ends grid (rest_of PASSES (pass_of (group_runs PASSES application_of) groups) grid)
