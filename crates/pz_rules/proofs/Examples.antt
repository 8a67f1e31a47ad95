-- Worked programs.
use Rattle.std.proofs.Common.{◌≡◌, ℕ, false, List, [], ◌∷◌, map, length, codes, Result, Ok, Err, refl}
use Rattle.std.specs.List.{flat_map}
use Rattle.pz_base.specs.declared.fault.Code.TheVariants as code
use Rattle.pz_base.specs.declared.fault.SourceFault.{SourceFault}
use Rattle.pz_game.specs.declared.denotation.Denotation.{Denotation}
use Rattle.pz_game.specs.declared.denotation.Kind.TheVariants as kind
use Rattle.pz_game.specs.declared.direction.Dir.{Dir}
use Rattle.pz_game.specs.declared.direction.Dir.TheVariants as dir
use Rattle.pz_game.specs.declared.rule_line.RuleLine.{RuleLine}
use Rattle.pz_game.specs.declared.game.GameParts.{GameParts}
use Rattle.pz_program.specs.declared.instance.Block.{Block}
use Rattle.pz_program.specs.declared.instance.Block.TheVariants.{One, Loop}
use Rattle.pz_program.specs.declared.instance.Instance.{Instance}
use Rattle.pz_program.specs.declared.instance.Program.{Program}
use Rattle.pz_game.specs.declared.pattern.Word.{Word}
use Rattle.pz_game.specs.declared.pattern.Word.TheVariants as word
use Rattle.pz_game.specs.declared.pattern.Item.{Item}
use Rattle.pz_rules.specs.Drafts.{program_of}
use Rattle.pz_plan.specs.Checks as of_checks
use Rattle.pz_instances.specs.Clash as of_clash
use Rattle.pz_plan.specs.Commands as of_commands
use Rattle.pz_rules.specs.Counting as of_counting
use Rattle.pz_plan.specs.Deciding as of_deciding
use Rattle.pz_rules.specs.Drafts as of_drafts
use Rattle.pz_instances.specs.Equal as of_equal
use Rattle.pz_instances.specs.Exclusion as of_exclusion
use Rattle.pz_rules.specs.Expansion as of_expansion
use Rattle.pz_rules.specs.PlanInstances as of_instances
use Rattle.pz_grammar.specs.Loop as of_loop
use Rattle.pz_plan.specs.Numbering as of_numbering
use Rattle.pz_grammar.specs.Parsed as of_parsed
use Rattle.pz_plan.specs.Planning as of_planning
use Rattle.pz_plan.specs.Prefix as of_prefix
use Rattle.pz_plan.specs.Same as of_same
use Rattle.pz_rules.specs.Sides as of_sides
use Rattle.pz_plan.specs.Spelling as of_spelling
use Rattle.pz_grammar.specs.Words as of_words

abbrev object : ℕ → Denotation
object k = record { kind = kind.Object; number = k; members = k ∷ [] }

-- Background, Target, Player, Wall, Crate, Spike, Mark; @ is Crate and Target; Thing is Crate or Wall
abbrev game : List RuleLine → GameParts
game lines = record {
  objects = codes "background" ∷ codes "target" ∷ codes "player" ∷ codes "wall" ∷ codes "crate" ∷ codes "spike" ∷ codes "mark" ∷ [];
  names = codes "background" ∷ codes "target" ∷ codes "player" ∷ codes "wall" ∷ codes "crate" ∷ codes "spike" ∷ codes "mark" ∷ codes "@" ∷ codes "thing" ∷ [];
  values = object 0 ∷ object 1 ∷ object 2 ∷ object 3 ∷ object 4 ∷ object 5 ∷ object 6
      ∷ record { kind = kind.Aggregate; number = 7; members = 4 ∷ 1 ∷ [] }
      ∷ record { kind = kind.Property; number = 8; members = 4 ∷ 3 ∷ [] } ∷ [];
  layers = 0 ∷ 1 ∷ 2 ∷ 2 ∷ 2 ∷ 2 ∷ 3 ∷ [];
  depth = 4;
  rules = lines;
  wins = [];
  levels = [];
  options = record { run_rules_on_level_start = false; require_player_movement = false };
}

abbrev line : ℕ → List (List ℕ) → RuleLine
line n ws = record { number = n; words = ws }

abbrev instances_in : Block → List Instance
instances_in (One group) = group
instances_in (Loop groups) = []

abbrev blocks_in : Result Program SourceFault → List Block
blocks_in (Ok program) = program.early
blocks_in (Err fault) = []

abbrev early_scans : Result Program SourceFault → List (List Dir)
early_scans result = map (λ block. map (λ i. i.scan) (instances_in block)) (blocks_in result)

abbrev left_items : Result Program SourceFault → List Item
left_items result = flat_map (λ block. flat_map (λ i. flat_map (λ row. flat_map (λ cell. cell) row.cells) i.left) (instances_in block)) (blocks_in result)

abbrev left_words : Result Program SourceFault → List Word
left_words result = map (λ item. item.word) (left_items result)

abbrev left_objects : Result Program SourceFault → List ℕ
left_objects result = map (λ item. item.object) (left_items result)

abbrev loop_size : Block → List ℕ
loop_size (One group) = []
loop_size (Loop groups) = length groups ∷ []

abbrev loop_sizes : Result Program SourceFault → List (List ℕ)
loop_sizes (Ok program) = flat_map loop_size program.early ∷ flat_map loop_size program.late ∷ []
loop_sizes (Err fault) = []

-- `[ > Player | Crate ] -> [ > Player | > Crate ]`
abbrev pushes : Type 0
pushes = early_scans (program_of (game (line 26 (codes "[" ∷ codes ">" ∷ codes "player" ∷ codes "|" ∷ codes "crate" ∷ codes "]" ∷ codes "->" ∷ codes "[" ∷ codes ">" ∷ codes "player" ∷ codes "|" ∷ codes ">" ∷ codes "crate" ∷ codes "]" ∷ []) ∷ []))) ≡ ((dir.Up ∷ dir.Down ∷ dir.Left ∷ dir.Right ∷ []) ∷ [])

-- `[ > Player ] -> [ < Player ]`: rows of one cell are scanned upwards
abbrev turns-back : Type 0
turns-back = early_scans (program_of (game (line 26 (codes "[" ∷ codes ">" ∷ codes "player" ∷ codes "]" ∷ codes "->" ∷ codes "[" ∷ codes "<" ∷ codes "player" ∷ codes "]" ∷ []) ∷ []))) ≡ ((dir.Up ∷ dir.Up ∷ dir.Up ∷ dir.Up ∷ []) ∷ [])

-- `[ Player ] -> [ Player Mark ]`: equal instances are kept once
abbrev marks : Type 0
marks = early_scans (program_of (game (line 26 (codes "[" ∷ codes "player" ∷ codes "]" ∷ codes "->" ∷ codes "[" ∷ codes "player" ∷ codes "mark" ∷ codes "]" ∷ []) ∷ []))) ≡ ((dir.Up ∷ []) ∷ [])

-- `[ moving Player ] -> [ moving Player ]`: the words of the left, in order
abbrev moves : Type 0
moves = left_words (program_of (game (line 26 (codes "[" ∷ codes "moving" ∷ codes "player" ∷ codes "]" ∷ codes "->" ∷ codes "[" ∷ codes "moving" ∷ codes "player" ∷ codes "]" ∷ []) ∷ []))) ≡ (word.Toward dir.Up ∷ word.Toward dir.Down ∷ word.Toward dir.Left ∷ word.Toward dir.Right ∷ word.Toward dir.Action ∷ [])

-- `horizontal [ Player | Thing ] -> [ | ]`: directions vary slower than members
abbrev chooses : Type 0
chooses = left_objects (program_of (game (line 26 (codes "horizontal" ∷ codes "[" ∷ codes "player" ∷ codes "|" ∷ codes "thing" ∷ codes "]" ∷ codes "->" ∷ codes "[" ∷ codes "|" ∷ codes "]" ∷ []) ∷ []))) ≡ (2 ∷ 4 ∷ 2 ∷ 3 ∷ 2 ∷ 4 ∷ 2 ∷ 3 ∷ [])

-- `[ Player Wall ] -> [ Player Wall ]`: a group without instances
abbrev impossible : Type 0
impossible = early_scans (program_of (game (line 26 (codes "[" ∷ codes "player" ∷ codes "wall" ∷ codes "]" ∷ codes "->" ∷ codes "[" ∷ codes "player" ∷ codes "wall" ∷ codes "]" ∷ []) ∷ []))) ≡ ([] ∷ [])

-- two gaps in a row
abbrev two-gaps : Type 0
two-gaps = program_of (game (line 26 (codes "[" ∷ codes "player" ∷ codes "|" ∷ codes "..." ∷ codes "|" ∷ codes "wall" ∷ codes "|" ∷ codes "..." ∷ codes "|" ∷ codes "crate" ∷ codes "]" ∷ codes "->" ∷ codes "[" ∷ codes "player" ∷ codes "|" ∷ codes "..." ∷ codes "|" ∷ codes "wall" ∷ codes "|" ∷ codes "..." ∷ codes "|" ∷ codes "crate" ∷ codes "]" ∷ []) ∷ [])) ≡ Err (record { code = code.OutsideProfile; line = 26 })

-- a gap at the end of a row
abbrev last-gap : Type 0
last-gap = program_of (game (line 26 (codes "[" ∷ codes "player" ∷ codes "|" ∷ codes "..." ∷ codes "]" ∷ codes "->" ∷ codes "[" ∷ codes "player" ∷ codes "|" ∷ codes "..." ∷ codes "]" ∷ []) ∷ [])) ≡ Err (record { code = code.Shape; line = 26 })

-- `+` on the first rule
abbrev joins-nothing : Type 0
joins-nothing = program_of (game (line 26 (codes "+" ∷ codes "[" ∷ codes "player" ∷ codes "]" ∷ codes "->" ∷ codes "[" ∷ codes "]" ∷ []) ∷ [])) ≡ Err (record { code = code.BadRule; line = 26 })

-- an unknown command
abbrev no-command : Type 0
no-command = program_of (game (line 26 (codes "[" ∷ codes "player" ∷ codes "]" ∷ codes "->" ∷ codes "[" ∷ codes "]" ∷ codes "fly" ∷ []) ∷ [])) ≡ Err (record { code = code.BadRule; line = 26 })

-- `no` before an aggregate
abbrev no-aggregate : Type 0
no-aggregate = program_of (game (line 26 (codes "[" ∷ codes "no" ∷ codes "@" ∷ codes "]" ∷ codes "->" ∷ codes "[" ∷ codes "mark" ∷ codes "]" ∷ []) ∷ [])) ≡ Err (record { code = code.Mixed; line = 26 })

-- an unknown name
abbrev no-name : Type 0
no-name = program_of (game (line 26 (codes "[" ∷ codes "ghost" ∷ codes "]" ∷ codes "->" ∷ codes "[" ∷ codes "]" ∷ []) ∷ [])) ≡ Err (record { code = code.Unknown; line = 26 })

-- a property that only the right names
abbrev ambiguous : Type 0
ambiguous = program_of (game (line 26 (codes "[" ∷ codes "mark" ∷ codes "]" ∷ codes "->" ∷ codes "[" ∷ codes "mark" ∷ codes "thing" ∷ codes "]" ∷ []) ∷ [])) ≡ Err (record { code = code.AmbiguousRight; line = 26 })

-- two objects of one layer on the right, below another rule
abbrev clash : Type 0
clash = program_of (game (line 26 (codes "[" ∷ codes "player" ∷ codes "]" ∷ codes "->" ∷ codes "[" ∷ codes "]" ∷ []) ∷ line 27 (codes "[" ∷ codes "mark" ∷ codes "]" ∷ codes "->" ∷ codes "[" ∷ codes "wall" ∷ codes "crate" ∷ codes "]" ∷ []) ∷ [])) ≡ Err (record { code = code.RightClash; line = 27 })

-- a movement word in a `+` rule of a late group
abbrev late-movement : Type 0
late-movement = program_of (game (line 26 (codes "late" ∷ codes "[" ∷ codes "player" ∷ codes "]" ∷ codes "->" ∷ codes "[" ∷ codes "]" ∷ []) ∷ line 27 (codes "+" ∷ codes "[" ∷ codes "player" ∷ codes "]" ∷ codes "->" ∷ codes "[" ∷ codes ">" ∷ codes "player" ∷ codes "]" ∷ []) ∷ [])) ≡ Err (record { code = code.LateMovement; line = 27 })

-- a loop that no line ends
abbrev half-a-loop : Type 0
half-a-loop = program_of (game (line 26 (codes "startloop" ∷ []) ∷ line 27 (codes "[" ∷ codes "player" ∷ codes "]" ∷ codes "->" ∷ codes "[" ∷ codes "]" ∷ []) ∷ [])) ≡ Err (record { code = code.BadRule; line = 26 })

-- `+` below a loop line
abbrev joins-a-loop : Type 0
joins-a-loop = program_of (game (line 26 (codes "[" ∷ codes "mark" ∷ codes "]" ∷ codes "->" ∷ codes "[" ∷ codes "target" ∷ codes "]" ∷ []) ∷ line 27 (codes "startloop" ∷ []) ∷ line 28 (codes "+" ∷ codes "[" ∷ codes "target" ∷ codes "]" ∷ codes "->" ∷ codes "[" ∷ codes "mark" ∷ codes "]" ∷ []) ∷ line 29 (codes "endloop" ∷ []) ∷ [])) ≡ Err (record { code = code.BadRule; line = 28 })

-- a loop of an early and a late group
abbrev loops : Type 0
loops = loop_sizes (program_of (game (line 26 (codes "startloop" ∷ []) ∷ line 27 (codes "[" ∷ codes "mark" ∷ codes "]" ∷ codes "->" ∷ codes "[" ∷ codes "target" ∷ codes "]" ∷ []) ∷ line 28 (codes "late" ∷ codes "[" ∷ codes "target" ∷ codes "]" ∷ codes "->" ∷ codes "[" ∷ codes "target" ∷ codes "mark" ∷ codes "]" ∷ []) ∷ line 29 (codes "endloop" ∷ []) ∷ []))) ≡ (1 ∷ []) ∷ (1 ∷ []) ∷ []

-- each of them holds
all_hold : pushes × turns-back × marks × moves × chooses × impossible × two-gaps × last-gap × joins-nothing × no-command × no-aggregate × no-name × ambiguous × clash × late-movement × half-a-loop × joins-a-loop × loops
unfolding of_checks.has_more_gaps of_checks.is_long of_checks.is_large of_checks.is_unknown of_checks.is_mixed of_checks.is_moving of_checks.in_cell of_checks.in_row of_checks.in_rows of_checks.in_rule of_checks.has_loose_gap of_checks.same_shape of_checks.shapes_agree of_checks.is_other_shape of_checks.is_misshapen of_checks.fault_of of_clash.has_clash of_commands.commands_given of_counting.size_of of_counting.pair_count of_deciding.is_member of_deciding.is_direction of_deciding.is_direction_on of_deciding.is_here of_deciding.the_only of_deciding.member_choice of_deciding.direction_choice of_deciding.decided_lead of_deciding.decided_name of_deciding.decided_term of_deciding.decided_terms of_deciding.decided_cells of_deciding.decided_row of_deciding.decided_rows of_drafts.draft_with_group of_drafts.with_group_settled of_drafts.with_loop_opened of_drafts.with_loop_closed of_drafts.is_misplaced of_drafts.lateness of_drafts.joins of_drafts.before of_drafts.draft_with_rule of_drafts.rule_added of_drafts.loop_added of_drafts.line_added of_drafts.program_of_draft of_drafts.program_from of_drafts.nothing of_drafts.program_of of_equal.same_item of_equal.has_item of_equal.within_cell of_equal.same_cell of_equal.same_row of_equal.same_instance of_expansion.unless_clash of_expansion.expansion_within of_expansion.expansion_of_rule of_instances.options_of of_instances.item_of of_instances.cell_of of_instances.row_of of_instances.rows_of of_instances.scan_of of_instances.instance_of of_exclusion.excludes of_exclusion.excludes_some of_exclusion.is_impossible of_exclusion.has_impossible of_instances.is_possible of_instances.picks_of of_instances.possible_of of_instances.instances_of of_instances.kept_after of_loop.loop_word of_loop.next_loop of_numbering.asked_by of_numbering.choices_at of_numbering.choices_in_row of_numbering.choices_in_rows of_numbering.term_of of_numbering.terms_of of_numbering.asked_in of_numbering.asked_count of_numbering.cells_of of_numbering.rows_of of_parsed.commands_of of_parsed.prefixes_of of_parsed.after_prefixes of_parsed.rule_of_tokens of_parsed.inside of_planning.with_right of_planning.plan_of_spelled of_planning.plan_of of_prefix.is_late_rule of_prefix.mentioned_directions of_prefix.directions_of of_same.same_mention of_same.says_the_same of_sides.side_added of_spelling.mentions_of of_spelling.denotation_if_any of_spelling.mentions_at of_spelling.spelled_out of_spelling.cell_of of_spelling.is_gap of_spelling.gap_of of_spelling.row_spelled_out of_spelling.rows_spelled_out of_words.lead_of of_words.command_of_word of_words.mark_of of_words.rule_word of_words.token_of of_words.tokens_from of_words.tokens_of
all_hold = (refl, refl, refl, refl, refl, refl, refl, refl, refl, refl, refl, refl, refl, refl, refl, refl, refl, refl)
