-- The items of a program are of objects of the game.
use Rattle.std.proofs.Common.{◌≡◌, ℕ, ◌+◌, ◌<◌, nat_lt, Bool, true, false, ◌&&◌, ◌==◌, if◌then◌else◌, List, [], ◌∷◌, ◌++◌, length, get_or, Option, Some, None, IfSome, Result, Ok, Err, refl, sym, ◌∙◌, subst, arith, codes}
use Rattle.std.specs.Prelude.{IfOk}
use Rattle.std.specs.List.{All, list_any, list_all, slice_get}
use Rattle.std.specs.Option.{option_map_or, option_and_then}
use Rattle.std.proofs.lemmas.Bool.{and_parts, and_from, lt-ltb, ltb-true, eqb-true}
use Rattle.std.proofs.lemmas.List.Sums.{AllPass-from_list_all, list_all-from_AllPass}
use Rattle.std.proofs.lemmas.Option.{unwrap_or-slice_get}
use Rattle.pz_base.specs.declared.fault.SourceFault.{SourceFault}
use Rattle.pz_base.specs.NameSet.{number_in}
use Rattle.pz_game.specs.declared.denotation.Denotation.{Denotation}
use Rattle.pz_game.specs.declared.rule_line.RuleLine.{RuleLine}
use Rattle.pz_game.specs.Game.{IsGame}
use Rattle.pz_game.specs.declared.game.GameParts.{GameParts}
use Rattle.pz_game.specs.Denotation.{IsDenoted}
use Rattle.pz_rules.specs.declared.draft.Draft.{Draft}
use Rattle.pz_rules.specs.declared.draft.OpenGroup.{OpenGroup}
use Rattle.pz_rules.specs.declared.expansion.Expansion.{Expansion}
use Rattle.pz_plan.specs.declared.fault.RuleFault.{RuleFault}
use Rattle.pz_plan.specs.declared.fault.RuleFault.TheVariants as fault
use Rattle.pz_program.specs.declared.instance.Block.{Block}
use Rattle.pz_program.specs.declared.instance.Block.TheVariants.{One, Loop}
use Rattle.pz_program.specs.declared.instance.Instance.{Instance}
use Rattle.pz_program.specs.declared.instance.Program.{Program}
use Rattle.pz_grammar.specs.declared.loops.LoopWord.{LoopWord}
use Rattle.pz_grammar.specs.declared.loops.LoopWord.TheVariants as loop_words
use Rattle.pz_game.specs.declared.pattern.Item.{Item}
use Rattle.pz_plan.specs.declared.plan.Plan.{Plan}
use Rattle.pz_grammar.specs.declared.rule.Rule.{Rule}
use Rattle.pz_rules.specs.declared.sides.Sides.{Sides}
use Rattle.pz_instances.specs.Clash.{has_clash}
use Rattle.pz_rules.specs.Counting.{pair_count}
use Rattle.pz_rules.specs.Drafts.{draft_with_group, with_group_settled, with_loop_opened, loop_of, with_loop, with_loop_closed, is_misplaced, lateness, joins, before, draft_with_rule, extended_by, rule_added, parsed_added, loop_added, line_added, going_on, program_of_draft, program_from, nothing, program_of}
use Rattle.pz_rules.specs.Expansion.{unless_clash, expansion_within, expanded_plan, expansion_of_rule}
use Rattle.pz_program.specs.Instance.{IsInstanceOf, IsGroupOf, IsBlockOf, IsProgramOf}
use Rattle.pz_rules.specs.PlanInstances.{layer_of, instances_of}
use Rattle.pz_grammar.specs.Loop.{loop_word, next_loop, is_end}
use Rattle.pz_grammar.specs.Parsed.{rule_of_tokens}
use Rattle.pz_game.specs.Pattern.{RuleRow, IsOf, AreOf, IsRowOf, AreRowsOf}
use Rattle.pz_plan.specs.Planning.{plan_of}
use Rattle.pz_rules.specs.Sides.{side_added}
use Rattle.pz_grammar.specs.Words.{tokens_of}
use Rattle.pz_rules.proofs.Belonging.{below, denotes, PlanFits, plan-fits, item_is_of, row_is_of, instance_is_of, instances-are_of}
use Rattle.pz_plan.proofs.EachOf.{each-append, each-get}

abbrev group_is_of : List ℕ → List Instance → Bool
group_is_of layers group = list_all (instance_is_of layers) group

abbrev block_is_of : List ℕ → Block → Bool
block_is_of layers (One group) = group_is_of layers group
block_is_of layers (Loop groups) = list_all (group_is_of layers) groups

abbrev sides_pass : {T : Type 0} → (T → Bool) → Sides T → Bool
sides_pass p sides = list_all p sides.early && list_all p sides.late

record IsDraftOf (layers : List ℕ) (draft : Draft) : Type 0 where
  done : sides_pass (block_is_of layers) draft.done ≡ true
  repeated : IfSome draft.repeated (λ groups. sides_pass (group_is_of layers) groups ≡ true)
  group : IfSome draft.group (λ g. group_is_of layers g.instances ≡ true)

-- what the game must be for it

record HasTable (layers : List ℕ) (table : List Denotation) : Type 0 where
  some : 0 < length layers
  entries : list_all (denotes (length layers)) table ≡ true

-- a rule

abbrev ExpansionIsOf : List ℕ → Result Expansion RuleFault → Type 0
ExpansionIsOf layers (Ok more) = group_is_of layers more.instances ≡ true
ExpansionIsOf layers (Err fault) = Unit {0}

unless_clash-is_of : (layers : List ℕ) (total : ℕ) (is : List Instance) → group_is_of layers is ≡ true → ExpansionIsOf layers (unless_clash total is)
unfolding unless_clash
unless_clash-is_of layers total is h =
    let yes : Result Expansion RuleFault = Ok (record { instances = is; pairs = total }) in
    let by : (b : Bool) → ExpansionIsOf layers (if b then Err fault.RightClash else yes) = λ b. elim b as (λ b. ExpansionIsOf layers (if b then Err fault.RightClash else yes)) [ true ↦ tt | false ↦ h ] in
    by (list_any has_clash is)

within-is_of : (layers : List ℕ) (table : List Denotation) (below total : ℕ) (plan : Plan) → HasTable layers table → PlanFits (length layers) (Ok plan) → ExpansionIsOf layers (expansion_within table layers below total plan)
unfolding expansion_within
within-is_of layers table below total plan has fits =
    let kept = unless_clash total (instances_of table layers below plan) in
    let by : (b : Bool) → ExpansionIsOf layers (if b then Err fault.TooManyRules else kept) = λ b. elim b as (λ b. ExpansionIsOf layers (if b then Err fault.TooManyRules else kept)) [
      | true ↦ tt
      | false ↦ unless_clash-is_of layers total (instances_of table layers below plan) (instances-are_of table layers below plan has.some has.entries fits)
    ] in
    by (nat_lt 65_536 total)

expanded_plan-is_of : (layers : List ℕ) (table : List Denotation) (below pairs : ℕ) (o : Result Plan RuleFault) → HasTable layers table → PlanFits (length layers) o → ExpansionIsOf layers (expanded_plan table layers below pairs o)
expanded_plan-is_of layers table below pairs (Ok plan) has fits = within-is_of layers table below (pairs + pair_count table plan) plan has fits
expanded_plan-is_of layers table below pairs (Err fault) has fits = tt

expanded-is_of : (layers : List ℕ) (table : List Denotation) (below pairs : ℕ) (late : Bool) (rule : Rule) → HasTable layers table → ExpansionIsOf layers (expansion_of_rule table layers below pairs late rule)
unfolding expansion_of_rule
expanded-is_of layers table below pairs late rule has = expanded_plan-is_of layers table below pairs (plan_of table late rule) has (plan-fits (length layers) table late rule has.entries)

-- a draft

side_added-passes : {T : Type 0} (p : T → Bool) (sides : Sides T) (late : Bool) (x : T) → sides_pass p sides ≡ true → p x ≡ true → sides_pass p (side_added sides late x) ≡ true
unfolding side_added
side_added-passes p sides true x h k =
    let a = and_parts (list_all p sides.early) (list_all p sides.late) h in
    and_from (list_all p sides.early) (list_all p (sides.late ++ x ∷ [])) a.0 (each-append p sides.late (x ∷ []) a.1 (and_from (p x) true k refl))
side_added-passes p sides false x h k =
    let a = and_parts (list_all p sides.early) (list_all p sides.late) h in
    and_from (list_all p (sides.early ++ x ∷ [])) (list_all p sides.late) (each-append p sides.early (x ∷ []) a.0 (and_from (p x) true k refl)) a.1

abbrev placed_in : Draft → OpenGroup → Option (Sides (List Instance)) → Draft
placed_in draft group o =
    elim o [
      | None ↦ record { done = side_added draft.done group.is_late (One group.instances); repeated = None; group = None; pairs = draft.pairs }
      | Some groups ↦ record { done = draft.done; repeated = Some (side_added groups group.is_late group.instances); group = None; pairs = draft.pairs }
    ]

placed_in-is_of : (layers : List ℕ) (d : Draft) (g : OpenGroup) (o : Option (Sides (List Instance))) → IsDraftOf layers d → group_is_of layers g.instances ≡ true → IfSome o (λ groups. sides_pass (group_is_of layers) groups ≡ true) → IsDraftOf layers (placed_in d g o)
placed_in-is_of layers d g None h k r = record { done = side_added-passes (block_is_of layers) d.done g.is_late (One g.instances) h.done k; repeated = tt; group = tt }
placed_in-is_of layers d g (Some groups) h k r = record { done = h.done; repeated = side_added-passes (group_is_of layers) groups g.is_late g.instances r k; group = tt }

placed-is_of : (layers : List ℕ) (d : Draft) (g : OpenGroup) → IsDraftOf layers d → group_is_of layers g.instances ≡ true → IsDraftOf layers (draft_with_group d g)
unfolding draft_with_group
placed-is_of layers d g h k = placed_in-is_of layers d g d.repeated h k h.repeated

settled_in-is_of : (layers : List ℕ) (d : Draft) (o : Option OpenGroup) → IsDraftOf layers d → IfSome o (λ g. group_is_of layers g.instances ≡ true) → IsDraftOf layers (elim o [ None ↦ d | Some group ↦ draft_with_group d group ])
settled_in-is_of layers d None h k = h
settled_in-is_of layers d (Some g) h k = placed-is_of layers d g h k

settled-is_of : (layers : List ℕ) (d : Draft) → IsDraftOf layers d → IsDraftOf layers (with_group_settled d)
unfolding with_group_settled
settled-is_of layers d h = settled_in-is_of layers d d.group h h.group

opened-is_of : (layers : List ℕ) (d : Draft) → IsDraftOf layers d → IsDraftOf layers (with_loop_opened d)
unfolding with_loop_opened
opened-is_of layers d h = record { done = (settled-is_of layers d h).done; repeated = refl; group = tt }

loop_of-is_of : (layers : List ℕ) (groups : List (List Instance)) → list_all (group_is_of layers) groups ≡ true → list_all (block_is_of layers) (loop_of groups) ≡ true
loop_of-is_of layers [] h = refl
loop_of-is_of layers (g ∷ gs) h = and_from (list_all (group_is_of layers) (g ∷ gs)) true h refl

with_loop-is_of : (layers : List ℕ) (done : Sides Block) (groups : Sides (List Instance)) → sides_pass (block_is_of layers) done ≡ true → sides_pass (group_is_of layers) groups ≡ true → sides_pass (block_is_of layers) (with_loop done groups) ≡ true
with_loop-is_of layers done groups h k =
    let a = and_parts (list_all (block_is_of layers) done.early) (list_all (block_is_of layers) done.late) h in
    let b = and_parts (list_all (group_is_of layers) groups.early) (list_all (group_is_of layers) groups.late) k in
    and_from (list_all (block_is_of layers) (done.early ++ loop_of groups.early)) (list_all (block_is_of layers) (done.late ++ loop_of groups.late))
    (each-append (block_is_of layers) done.early (loop_of groups.early) a.0 (loop_of-is_of layers groups.early b.0))
    (each-append (block_is_of layers) done.late (loop_of groups.late) a.1 (loop_of-is_of layers groups.late b.1))

closed_in-is_of : (layers : List ℕ) (d : Draft) (o : Option (Sides (List Instance))) → IsDraftOf layers d → IfSome o (λ groups. sides_pass (group_is_of layers) groups ≡ true)
    → IsDraftOf layers (elim o [ None ↦ d | Some groups ↦ record { done = with_loop d.done groups; repeated = None; group = None; pairs = d.pairs } ])
closed_in-is_of layers d None h k = h
closed_in-is_of layers d (Some groups) h k = record { done = with_loop-is_of layers d.done groups h.done k; repeated = tt; group = tt }

closed-is_of : (layers : List ℕ) (d : Draft) → IsDraftOf layers d → IsDraftOf layers (with_loop_closed d)
unfolding with_loop_closed
closed-is_of layers d h = let e = settled-is_of layers d h in closed_in-is_of layers (with_group_settled d) (with_group_settled d).repeated e e.repeated

before-is_of : (layers : List ℕ) (d : Draft) (rule : Rule) → IsDraftOf layers d → IsDraftOf layers (before d rule)
unfolding before
before-is_of layers d rule h =
    let by : (b : Bool) → IsDraftOf layers (if b then d else with_group_settled d) = λ b. elim b as (λ b. IsDraftOf layers (if b then d else with_group_settled d)) [ true ↦ h | false ↦ settled-is_of layers d h ] in
    by rule.is_joined

joins-is_of : (layers : List ℕ) (d : Draft) (rule : Rule) → IsDraftOf layers d → group_is_of layers (joins d rule) ≡ true
unfolding joins
joins-is_of layers d rule h =
    let found : (o : Option OpenGroup) → IfSome o (λ g. group_is_of layers g.instances ≡ true) → group_is_of layers (elim o [ None ↦ [] | Some group ↦ group.instances ]) ≡ true =
    λ o. elim o as (λ o. IfSome o (λ g. group_is_of layers g.instances ≡ true) → group_is_of layers (elim o [ None ↦ [] | Some group ↦ group.instances ]) ≡ true) [ None ↦ λ e. refl | Some g ↦ λ e. e ] in
    let by : (b : Bool) → group_is_of layers (if b then elim d.group [ None ↦ [] | Some group ↦ group.instances ] else []) ≡ true =
    λ b. elim b as (λ b. group_is_of layers (if b then elim d.group [ None ↦ [] | Some group ↦ group.instances ] else []) ≡ true) [ true ↦ found d.group h.group | false ↦ refl ] in
    by rule.is_joined

extended-is_of : (layers : List ℕ) (d : Draft) (rule : Rule) (more : Expansion) → IsDraftOf layers d → group_is_of layers more.instances ≡ true → IsDraftOf layers (draft_with_rule d rule more)
unfolding draft_with_rule
extended-is_of layers d rule more h k =
    let e = before-is_of layers d rule h in
    record { done = e.done; repeated = e.repeated; group = each-append (instance_is_of layers) (joins d rule) more.instances (joins-is_of layers d rule h) k }

abbrev DraftsOf : List ℕ → Result Draft RuleFault → Type 0
DraftsOf layers (Ok draft) = IsDraftOf layers draft
DraftsOf layers (Err fault) = Unit {0}

extended_by-is_of : (layers : List ℕ) (d : Draft) (rule : Rule) (o : Result Expansion RuleFault) → IsDraftOf layers d → ExpansionIsOf layers o → DraftsOf layers (extended_by d rule o)
extended_by-is_of layers d rule (Ok more) h k = extended-is_of layers d rule more h k
extended_by-is_of layers d rule (Err fault) h k = tt

rule_added-is_of : (game : GameParts) (d : Draft) (below : ℕ) (rule : Rule) → HasTable game.layers game.values → IsDraftOf game.layers d → DraftsOf game.layers (rule_added game d below rule)
unfolding rule_added
rule_added-is_of game d below rule has h =
    let more = extended_by d rule (expansion_of_rule game.values game.layers below d.pairs (lateness d rule) rule) in
    let by : (b : Bool) → DraftsOf game.layers (if b then Err fault.BadRule else more) = λ b. elim b as (λ b. DraftsOf game.layers (if b then Err fault.BadRule else more)) [
      | true ↦ tt
      | false ↦ extended_by-is_of game.layers d rule (expansion_of_rule game.values game.layers below d.pairs (lateness d rule) rule) h (expanded-is_of game.layers game.values below d.pairs (lateness d rule) rule has)
    ] in
    by (is_misplaced d rule)

parsed_added-is_of : (game : GameParts) (d : Draft) (below : ℕ) (o : Option Rule) → HasTable game.layers game.values → IsDraftOf game.layers d → DraftsOf game.layers (parsed_added game d below o)
parsed_added-is_of game d below None has h = tt
parsed_added-is_of game d below (Some rule) has h = rule_added-is_of game d below rule has h

unless-is_of : (layers : List ℕ) (b : Bool) (d : Draft) → IsDraftOf layers d → DraftsOf layers (if b then Ok d else Err fault.BadRule)
unless-is_of layers true d h = h
unless-is_of layers false d h = tt

loop_added-is_of : (layers : List ℕ) (d : Draft) (lines : List RuleLine) (w : LoopWord) → IsDraftOf layers d → DraftsOf layers (loop_added d lines w)
unfolding loop_added
loop_added-is_of layers d lines loop_words.Start h = unless-is_of layers (is_end (next_loop lines)) (with_loop_opened d) (opened-is_of layers d h)
loop_added-is_of layers d lines loop_words.End h = unless-is_of layers _ (with_loop_closed d) (closed-is_of layers d h)

line_added-is_of : (game : GameParts) (d : Draft) (lines : List RuleLine) (words : List (List ℕ)) → HasTable game.layers game.values → IsDraftOf game.layers d → DraftsOf game.layers (line_added game d lines words)
unfolding line_added
line_added-is_of game d lines words has h =
    let rule = parsed_added game d (length lines) (rule_of_tokens (tokens_of game.names words)) in
    let by : (o : Option LoopWord) → DraftsOf game.layers (elim o [ None ↦ rule | Some word ↦ loop_added d lines word ]) = λ o. elim o as (λ o. DraftsOf game.layers (elim o [ None ↦ rule | Some word ↦ loop_added d lines word ])) [
      | None ↦ parsed_added-is_of game d (length lines) (rule_of_tokens (tokens_of game.names words)) has h
      | Some word ↦ loop_added-is_of game.layers d lines word h
    ] in
    by (loop_word words)

-- a program

abbrev ProgramsOf : List ℕ → Result Program SourceFault → Type 0
ProgramsOf layers (Ok program) = (list_all (block_is_of layers) program.early ≡ true) × (list_all (block_is_of layers) program.late ≡ true)
ProgramsOf layers (Err fault) = Unit {0}

going_on-is_of : (layers : List ℕ) (n : ℕ) (later : Draft → Result Program SourceFault) (o : Result Draft RuleFault) → ((d : Draft) → IsDraftOf layers d → ProgramsOf layers (later d)) → DraftsOf layers o → ProgramsOf layers (going_on n later o)
going_on-is_of layers n later (Ok d) all h = all d h
going_on-is_of layers n later (Err fault) all h = tt

program_from-is_of : (game : GameParts) (d : Draft) (lines : List RuleLine) → HasTable game.layers game.values → IsDraftOf game.layers d → ProgramsOf game.layers (program_from game d lines)
unfolding program_from program_of_draft
program_from-is_of game d [] has h =
    let e = settled-is_of game.layers d h in
    and_parts (list_all (block_is_of game.layers) (with_group_settled d).done.early) (list_all (block_is_of game.layers) (with_group_settled d).done.late) e.done
program_from-is_of game d (line ∷ lines) has h =
    going_on-is_of game.layers line.number (λ d. program_from game d lines) (line_added game d lines line.words)
    (λ e k. program_from-is_of game e lines has k)
    (line_added-is_of game d lines line.words has h)

program_of-is_of : (game : GameParts) → HasTable game.layers game.values → ProgramsOf game.layers (program_of game)
unfolding program_of nothing
program_of-is_of game has = program_from-is_of game nothing game.rules has (record { done = refl; repeated = tt; group = tt })

-- as the clauses say it

item-owned : (layers : List ℕ) (item : Item) → item_is_of layers item ≡ true → IsOf layers item
item-owned layers item h =
    let a = and_parts (below (length layers) item.object) (layer_of layers item.object == item.layer) h in
    record { object = ltb-true item.object (length layers) a.0; layer = sym (unwrap_or-slice_get layers item.object 0) ∙ eqb-true (layer_of layers item.object) item.layer a.1 }

owned : {X : Type 0} (p : X → Bool) (P : X → Type 0) → ((x : X) → p x ≡ true → P x) → (xs : List X) → list_all p xs ≡ true → All P xs
owned p P one xs h = λ k d in_range. one _ (AllPass-from_list_all p xs h k d in_range)

rows-owned : (layers : List ℕ) (rows : List RuleRow) → list_all (row_is_of layers) rows ≡ true → AreRowsOf layers rows
rows-owned layers rows h =
    owned (row_is_of layers) (IsRowOf layers) (λ row e. owned (list_all (item_is_of layers)) (AreOf layers) (λ cell f. owned (item_is_of layers) (IsOf layers) (item-owned layers) cell f) row.cells e) rows h

instance-owned : (layers : List ℕ) (i : Instance) → instance_is_of layers i ≡ true → IsInstanceOf layers i
instance-owned layers i h =
    let a = and_parts (list_all (row_is_of layers) i.left) (list_all (row_is_of layers) i.right) h in
    record { left = rows-owned layers i.left a.0; right = rows-owned layers i.right a.1 }

group-owned : (layers : List ℕ) (group : List Instance) → group_is_of layers group ≡ true → IsGroupOf layers group
group-owned layers group h = owned (instance_is_of layers) (IsInstanceOf layers) (instance-owned layers) group h

block-owned : (layers : List ℕ) (block : Block) → block_is_of layers block ≡ true → IsBlockOf layers block
block-owned layers (One group) h = group-owned layers group h
block-owned layers (Loop groups) h = owned (group_is_of layers) (IsGroupOf layers) (group-owned layers) groups h

denotes-below : (n m : ℕ) (d : Denotation) → n ≡ m → IsDenoted n d → denotes m d ≡ true
denotes-below n m d e is =
    list_all-from_AllPass (below m) d.members (λ k x in_range. lt-ltb (get_or d.members k x) m (subst (λ j. get_or d.members k x < j) e (is.all k x in_range)))

table-has : (game : GameParts) → IsGame game → list_all (denotes (length game.layers)) game.values ≡ true
table-has game is =
    list_all-from_AllPass (denotes (length game.layers)) game.values
    (λ k d in_range. denotes-below (length game.objects) (length game.layers) (get_or game.values k d) (sym is.laid) (is.members k d in_range))

some-object : (n : ℕ) (values : List Denotation) (o : Option ℕ) → list_all (denotes n) values ≡ true → 0 < length (option_map_or (λ d. d.members) (option_and_then (slice_get values) o) []) → 0 < n
some-object n values None h some = absurd (omega (arith, some))
some-object n values (Some k) h some =
    let first : (objects : List ℕ) → list_all (below n) objects ≡ true → 0 < length objects → 0 < n = λ objects. elim objects as (λ objects. list_all (below n) objects ≡ true → 0 < length objects → 0 < n) [
      | [] ↦ λ e f. absurd (omega (arith, f))
      | x ∷ xs ↦ λ e f. let g = ltb-true x n (and_parts (below n x) (list_all (below n) xs) e).0 in omega (arith, g)
    ] in
    let by : (o : Option Denotation) → IfSome o (λ d. denotes n d ≡ true) → 0 < length (option_map_or (λ d. d.members) o []) → 0 < n = λ o. elim o as (λ o. IfSome o (λ d. denotes n d ≡ true) → 0 < length (option_map_or (λ d. d.members) o []) → 0 < n) [
      | None ↦ λ e f. absurd (omega (arith, f))
      | Some d ↦ λ e f. first d.members e f
    ] in
    by (slice_get values k) (each-get (denotes n) values k h) some

program-owned : (layers : List ℕ) (r : Result Program SourceFault) → ProgramsOf layers r → IfOk r (IsProgramOf layers)
program-owned layers (Ok program) a =
    record {
      early = owned (block_is_of layers) (IsBlockOf layers) (block-owned layers) program.early a.0;
      late = owned (block_is_of layers) (IsBlockOf layers) (block-owned layers) program.late a.1;
    }
program-owned layers (Err fault) a = tt

-- the program of a game is of its objects
pub program_of-owned : (game : GameParts) → IsGame game → IfOk (program_of game) (IsProgramOf game.layers)
program_of-owned game is =
    let table = table-has game is in
    let has : HasTable game.layers game.values = record { some = some-object (length game.layers) game.values (number_in game.names (codes "player")) table is.player; entries = table } in
    program-owned game.layers (program_of game) (program_of-is_of game has)
