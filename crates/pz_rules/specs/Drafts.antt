-- The program of a game, line by line.
use Rattle.std.specs.Prelude.{ℕ, Bool, true, not, ◌&&◌, List, [], ◌∷◌, ◌++◌, Option, Some, None, Result, Ok, Err, is_some, length, if◌then◌else◌}
use Rattle.pz_base.specs.declared.fault.SourceFault.{SourceFault}
use Rattle.pz_game.specs.declared.game.GameParts.{GameParts}
use Rattle.pz_game.specs.declared.rule_line.RuleLine.{RuleLine}
use Rattle.pz_rules.specs.declared.draft.Draft.{Draft}
use Rattle.pz_rules.specs.declared.draft.OpenGroup.{OpenGroup}
use Rattle.pz_rules.specs.declared.expansion.Expansion.{Expansion}
use Rattle.pz_plan.specs.declared.fault.RuleFault.{RuleFault}
use Rattle.pz_plan.specs.declared.fault.RuleFault.TheVariants as fault
use Rattle.pz_program.specs.declared.instance.Block.{Block}
use Rattle.pz_program.specs.declared.instance.Block.TheVariants.{One, Loop}
use Rattle.pz_program.specs.declared.instance.Instance.{Instance}
use Rattle.pz_program.specs.declared.instance.Program.{Program}
use Rattle.pz_grammar.specs.declared.loops.LoopWord.{LoopWord}
use Rattle.pz_grammar.specs.declared.loops.LoopWord.TheVariants as loop_words
use Rattle.pz_grammar.specs.declared.rule.Rule.{Rule}
use Rattle.pz_rules.specs.declared.sides.Sides.{Sides}
use Rattle.pz_rules.specs.Expansion.{expansion_of_rule}
use Rattle.pz_plan.specs.Fault.{code_of}
use Rattle.pz_grammar.specs.Loop.{loop_word, next_loop, is_end}
use Rattle.pz_grammar.specs.Parsed.{rule_of_tokens}
use Rattle.pz_plan.specs.Prefix.{is_late_rule}
use Rattle.pz_rules.specs.Sides.{side_added}
use Rattle.pz_grammar.specs.Words.{tokens_of}

-- a group takes its place: in the open loop, or else as a block of its own
unfoldable pub draft_with_group : Draft → OpenGroup → Draft
draft_with_group draft group =
    elim draft.repeated [
      | None ↦ record { done = side_added draft.done group.is_late (One group.instances); repeated = None; group = None; pairs = draft.pairs }
      | Some groups ↦ record { done = draft.done; repeated = Some (side_added groups group.is_late group.instances); group = None; pairs = draft.pairs }
    ]

-- rules.loop-places: no rule can join the last group any more
unfoldable pub with_group_settled : Draft → Draft
with_group_settled draft = elim draft.group [ None ↦ draft | Some group ↦ draft_with_group draft group ]

-- a loop begins
unfoldable pub with_loop_opened : Draft → Draft
with_loop_opened draft = let d = with_group_settled draft in record { done = d.done; repeated = Some (record { early = []; late = [] }); group = None; pairs = d.pairs }

-- the block of a part of a loop, if it has groups
abbrev pub loop_of : List (List Instance) → List Block
loop_of [] = []
loop_of (group ∷ groups) = Loop (group ∷ groups) ∷ []

abbrev pub with_loop : Sides Block → Sides (List Instance) → Sides Block
with_loop done groups = record { early = done.early ++ loop_of groups.early; late = done.late ++ loop_of groups.late }

-- the open loop ends
unfoldable pub with_loop_closed : Draft → Draft
with_loop_closed draft =
    let d = with_group_settled draft in
    elim d.repeated [
      | None ↦ d
      | Some groups ↦ record { done = with_loop d.done groups; repeated = None; group = None; pairs = d.pairs }
    ]

-- rules.loop-joins, rules.late: a `+` rule without a rule right above it, or with `late` in a group that isn't late
unfoldable pub is_misplaced : Draft → Rule → Bool
is_misplaced draft rule =
    rule.is_joined && elim draft.group [ None ↦ true | Some group ↦ is_late_rule rule && not group.is_late ]

-- rules.late: a `+` rule is late if its group is
unfoldable pub lateness : Draft → Rule → Bool
lateness draft rule = if rule.is_joined then elim draft.group [ None ↦ is_late_rule rule | Some group ↦ group.is_late ] else is_late_rule rule

-- rules.prefixes: the instances that stand before a rule's own in its group, those of the rules above where a `+` joins it to them
unfoldable pub joins : Draft → Rule → List Instance
joins draft rule = if rule.is_joined then elim draft.group [ None ↦ [] | Some group ↦ group.instances ] else []

-- the draft before the rule's group
unfoldable pub before : Draft → Rule → Draft
before draft rule = if rule.is_joined then draft else with_group_settled draft

-- the last group, with the instances of a rule that joins it
abbrev pub with_instances : Option OpenGroup → Rule → List Instance → OpenGroup
with_instances None rule more = record { is_late = is_late_rule rule; instances = more }
with_instances (Some group) rule more = record { is_late = group.is_late; instances = group.instances ++ more }

-- a rule with its instances
unfoldable pub draft_with_rule : Draft → Rule → Expansion → Draft
draft_with_rule draft rule more =
    let d = before draft rule in
    record {
      done = d.done;
      repeated = d.repeated;
      group = Some (record { is_late = lateness draft rule; instances = joins draft rule ++ more.instances });
      pairs = more.pairs;
    }

abbrev pub extended_by : Draft → Rule → Result Expansion RuleFault → Result Draft RuleFault
extended_by draft rule (Ok more) = Ok (draft_with_rule draft rule more)
extended_by draft rule (Err fault) = Err fault

-- the draft with a rule, below which so many lines stand, or the first fault of the rule
unfoldable pub rule_added : GameParts → Draft → ℕ → Rule → Result Draft RuleFault
rule_added game draft below rule =
    if is_misplaced draft rule then Err fault.BadRule
    else extended_by draft rule (expansion_of_rule game.values game.layers below draft.pairs (lateness draft rule) rule)

abbrev pub parsed_added : GameParts → Draft → ℕ → Option Rule → Result Draft RuleFault
parsed_added game draft below None = Err fault.BadRule
parsed_added game draft below (Some rule) = rule_added game draft below rule

-- rules.loop-pairs: a loop line. If it begins a loop, the next loop line below ends that; if it ends a loop, one was begun above
unfoldable pub loop_added : Draft → List RuleLine → LoopWord → Result Draft RuleFault
loop_added draft below loop_words.Start = if is_end (next_loop below) then Ok (with_loop_opened draft) else Err fault.BadRule
loop_added draft below loop_words.End = if is_some draft.repeated then Ok (with_loop_closed draft) else Err fault.BadRule

-- checks.rules: the draft with one more line, which stands above others
unfoldable pub line_added : GameParts → Draft → List RuleLine → List (List ℕ) → Result Draft RuleFault
line_added game draft below words =
    elim (loop_word words) [
      | None ↦ parsed_added game draft (length below) (rule_of_tokens (tokens_of game.names words))
      | Some word ↦ loop_added draft below word
    ]

abbrev pub going_on : ℕ → (Draft → Result Program SourceFault) → Result Draft RuleFault → Result Program SourceFault
going_on number later (Ok draft) = later draft
going_on number later (Err fault) = Err (record { code = code_of fault; line = number })

-- the program of a draft after the last line
unfoldable pub program_of_draft : Draft → Program
program_of_draft draft = let done = (with_group_settled draft).done in record { early = done.early; late = done.late }

-- the program of lines that stand below a draft, or the first fault of the first line that has one
unfoldable pub program_from : GameParts → Draft → List RuleLine → Result Program SourceFault
program_from game draft [] = Ok (program_of_draft draft)
program_from game draft (line ∷ lines) = going_on line.number (λ d. program_from game d lines) (line_added game draft lines line.words)

unfoldable pub nothing : Draft
nothing = record { done = record { early = []; late = [] }; repeated = None; group = None; pairs = 0 }

-- the program of a game
unfoldable pub program_of : GameParts → Result Program SourceFault
program_of game = program_from game nothing game.rules
