-- The instances of a rule, or its first fault.
use Rattle.std.specs.Prelude.{ℕ, ◌+◌, Bool, nat_lt, List, Result, Ok, Err, if◌then◌else◌}
use Rattle.std.specs.List.{list_any}
use Rattle.pz_game.specs.declared.denotation.Denotation.{Denotation}
use Rattle.pz_rules.specs.declared.expansion.Expansion.{Expansion}
use Rattle.pz_rules.specs.declared.expansion.TheConstants.{PAIRS}
use Rattle.pz_plan.specs.declared.fault.RuleFault.{RuleFault}
use Rattle.pz_plan.specs.declared.fault.RuleFault.TheVariants as fault
use Rattle.pz_program.specs.declared.instance.Instance.{Instance}
use Rattle.pz_plan.specs.declared.plan.Plan.{Plan}
use Rattle.pz_grammar.specs.declared.rule.Rule.{Rule}
use Rattle.pz_instances.specs.Clash.{has_clash}
use Rattle.pz_rules.specs.Counting.{pair_count}
use Rattle.pz_rules.specs.PlanInstances.{instances_of}
use Rattle.pz_plan.specs.Planning.{plan_of}

-- the kept instances, if the right of none has a clash
unfoldable pub unless_clash : ℕ → List Instance → Result Expansion RuleFault
unless_clash total instances =
    if list_any has_clash instances then Err fault.RightClash else Ok (record { instances = instances; pairs = total })

-- the instances of a plan, if all rules up to it have no more pairs than rules may have
unfoldable pub expansion_within : List Denotation → List ℕ → ℕ → ℕ → Plan → Result Expansion RuleFault
expansion_within table layers below total plan =
    if nat_lt PAIRS total then Err fault.TooManyRules else unless_clash total (instances_of table layers below plan)

abbrev pub expanded_plan : List Denotation → List ℕ → ℕ → ℕ → Result Plan RuleFault → Result Expansion RuleFault
expanded_plan table layers below pairs (Err fault) = Err fault
expanded_plan table layers below pairs (Ok plan) = expansion_within table layers below (pairs + pair_count table plan) plan

-- the instances of a rule, late or not; so many lines of RULES stand below it, and the rules above it have so many pairs
unfoldable pub expansion_of_rule : List Denotation → List ℕ → ℕ → ℕ → Bool → Rule → Result Expansion RuleFault
expansion_of_rule table layers below pairs is_late rule = expanded_plan table layers below pairs (plan_of table is_late rule)
