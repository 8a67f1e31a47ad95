-- The fault of a program is one of a rule line, and no want of memory.
use Rattle.std.proofs.Common.{◌≢◌, ℕ, List, [], ◌∷◌, map, Result, Ok, Err, arith}
use Rattle.std.specs.Prelude.{IfErr}
use Rattle.std.specs.List.{Contains}
use Rattle.std.proofs.lemmas.List.Elements.{Contains-get_or, Contains-append_left, Contains-append_right}
use Rattle.std.proofs.lemmas.Result.{IfErr-weaker}
use Rattle.pz_base.specs.declared.fault.Code.TheVariants.{Memory}
use Rattle.pz_base.specs.declared.fault.SourceFault.{SourceFault}
use Rattle.pz_game.specs.declared.game.GameParts.{GameParts}
use Rattle.pz_game.specs.declared.rule_line.RuleLine.{RuleLine}
use Rattle.pz_rules.specs.declared.draft.Draft.{Draft}
use Rattle.pz_plan.specs.declared.fault.RuleFault.{RuleFault}
use Rattle.pz_plan.specs.Fault.{code_of}
use Rattle.pz_program.specs.declared.instance.Program.{Program}
use Rattle.pz_rules.specs.Drafts.{line_added, going_on, program_from, nothing, program_of}

-- no fault of a rule is want of memory
code_of-apart : (fault : RuleFault) → code_of fault ≢ Memory
code_of-apart fault e = grind (arith, e)

-- the fault names one of the lines
abbrev NamesOneOf : List RuleLine → SourceFault → Type 0
NamesOneOf lines fault = Contains (map (λ (line : RuleLine). line.number) lines) fault.line

-- and is no want of memory
abbrev IsAtOneOf : List RuleLine → SourceFault → Type 0
IsAtOneOf lines fault = NamesOneOf lines fault × (fault.code ≢ Memory)

going_on-at : (line : RuleLine) (lines : List RuleLine) (later : Draft → Result Program SourceFault) (o : Result Draft RuleFault) → ((d : Draft) → IfErr (later d) (IsAtOneOf lines))
    → IfErr (going_on line.number later o) (IsAtOneOf (line ∷ lines))
going_on-at line lines later (Err fault) each = (Contains-append_left (line.number ∷ []) (map (λ (line : RuleLine). line.number) lines) line.number (first line.number), code_of-apart fault)
  where
    first : (k : ℕ) → Contains (k ∷ []) k
    first k = Contains-get_or (k ∷ []) 0 k (omega arith)
going_on-at line lines later (Ok d) each = by (later d) (each d)
  where
    by : (r : Result Program SourceFault) → IfErr r (IsAtOneOf lines) → IfErr r (IsAtOneOf (line ∷ lines))
    by (Ok program) h = tt
    by (Err fault) h = (Contains-append_right (line.number ∷ []) (map (λ (line : RuleLine). line.number) lines) fault.line h.0, h.1)

program_from-at : (game : GameParts) (d : Draft) (lines : List RuleLine) → IfErr (program_from game d lines) (IsAtOneOf lines)
unfolding program_from
program_from-at game d [] = tt
program_from-at game d (line ∷ lines) =
    going_on-at line lines (λ d. program_from game d lines) (line_added game d lines line.words) (λ e. program_from-at game e lines)

program_of-at : (game : GameParts) → IfErr (program_of game) (IsAtOneOf game.rules)
unfolding program_of
program_of-at game = program_from-at game nothing game.rules

-- the fault of a program names a rule line of its game
pub program_of-lined : (game : GameParts) → IfErr (program_of game) (NamesOneOf game.rules)
program_of-lined game = IfErr-weaker (program_of game) (IsAtOneOf game.rules) (NamesOneOf game.rules) (λ fault at. at.0) (program_of-at game)

-- and is no want of memory
pub program_of-apart : (game : GameParts) → IfErr (program_of game) (λ fault. fault.code ≢ Memory)
program_of-apart game = IfErr-weaker (program_of game) (IsAtOneOf game.rules) (λ fault. fault.code ≢ Memory) (λ fault at. at.1) (program_of-at game)
