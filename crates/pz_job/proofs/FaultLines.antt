-- The fault of a session lies in its source.
use Rattle.std.proofs.Common.{◌≡◌, ◌≤◌, ℕ, List, map, get_or, Result, Ok, Err, refl, sym, ap, ◌∙◌, subst}
use Rattle.std.specs.Prelude.{IfOk, IfErr, Option, Some, None}
use Rattle.std.specs.List.{All, Contains}
use Rattle.std.proofs.lemmas.List.{get_or-map}
use Rattle.std.proofs.lemmas.List.Elements.{All-contains, All-map}
use Rattle.pz_base.specs.declared.fault.SourceFault.{SourceFault}
use Rattle.pz_game.specs.declared.game.GameParts.{GameParts}
use Rattle.pz_game.specs.declared.rule_line.RuleLine.{RuleLine}
use Rattle.pz_program.specs.declared.instance.Program.{Program}
use Rattle.pz_source.specs.Reading.{source_of, line_count}
use Rattle.pz_source.proofs.LineLemmas.{Names}
use Rattle.pz_source.proofs.FaultLines.{source-fault}
use Rattle.pz_source.proofs.RuleNumbers.{result-ruled}
use Rattle.pz_rules.specs.Drafts.{program_of}
use Rattle.pz_rules.proofs.FaultLines.{program_of-lined}
use Rattle.pz_record.specs.declared.input.Input.{Input}
use Rattle.pz_record.specs.declared.order.Order.{Order}
use Rattle.pz_entries.specs.declared.entry.Entry.{Entry}
use Rattle.pz_case.specs.declared.case.Case.{Case}
use Rattle.pz_case.specs.declared.item.Refusal.{Refusal}
use Rattle.pz_case.specs.declared.item.Refusal.TheVariants.{Source, NoLevel}
use Rattle.pz_case.specs.FirstLevel.{level_from}
use Rattle.pz_case.specs.Plan.{PlanState}
use Rattle.pz_job.specs.Rulebooks.{or_refused}
use Rattle.pz_job.specs.Job.{or_no_level, plan_at, plan_of, case_of, job_of}
use Rattle.pz_job.specs.FaultLines.{NamesALine, NameLines}

-- the rule lines of a game are lines of a source with so many
abbrev AreWithin : ℕ → List RuleLine → Type 0
AreWithin count lines = All (λ line. 1 ≤ line.number × line.number ≤ count) lines

one_within : (count : ℕ) (lines : List RuleLine) (number : ℕ) → AreWithin count lines → Contains (map (λ (line : RuleLine). line.number) lines) number → number ≤ count
one_within count lines number within here =
    let number_of : RuleLine → ℕ = λ line. line.number in
    let low : ℕ → Type 0 = λ k. k ≤ count in
    All-contains low (map number_of lines) number (All-map low number_of lines (λ k d below. (within k d below).1)) here

given_is : {A E : Type 0} (r : Result A E) → IfOk r (λ x. r ≡ Ok x)
given_is (Ok x) = refl
given_is (Err e) = tt

from_level : (source : List ℕ) (first : Option ℕ) (plan : ℕ → PlanState) → NamesALine source (or_no_level first plan)
from_level source (Some number) plan fault is = absurd (let never : Ok (plan number) ≡ Err (Source fault) = is in cc)
from_level source None plan fault is = absurd (let never : Err NoLevel ≡ Err (Source fault) = is in cc)

from_program : (source : List ℕ) (lines : List RuleLine) (program : Result Program SourceFault) (later : Program → Result PlanState Refusal) → AreWithin (line_count source) lines
    → IfErr program (λ fault. Contains (map (λ (line : RuleLine). line.number) lines) fault.line) → ((p : Program) → NamesALine source (later p)) → NamesALine source (or_refused program later)
from_program source lines (Ok p) later within named each fault is = each p fault is
from_program source lines (Err first) later within named each fault is =
    let same : first ≡ fault = (let both : Err (Source first) ≡ Err (Source fault) = is in cc) in
    subst (λ (f : SourceFault). f.line ≤ line_count source) same (one_within (line_count source) lines first.line within named)

from_source : (source : List ℕ) (game : Result GameParts SourceFault) (later : GameParts → Result PlanState Refusal) → IfErr game (λ fault. fault.line ≤ line_count source)
    → IfOk game (λ g. AreWithin (line_count source) g.rules) → ((g : GameParts) → AreWithin (line_count source) g.rules → NamesALine source (later g)) → NamesALine source (or_refused game later)
from_source source (Ok g) later named within each fault is = each g within fault is
from_source source (Err first) later named within each fault is =
    let same : first ≡ fault = (let both : Err (Source first) ≡ Err (Source fault) = is in cc) in
    subst (λ (f : SourceFault). f.line ≤ line_count source) same named

-- a fault of a text names a line of it
line_of : {A : Type 0} (n : ℕ) (r : Result A SourceFault) → IfErr r (Names n) → IfErr r (λ fault. fault.line ≤ n)
line_of n (Ok x) named = tt
line_of n (Err fault) named = named.1

plan_names : (source : List ℕ) (inputs : List Input) (recorded : List (List (List ℕ))) (index : ℕ) (order : Order) → NamesALine source (plan_of source inputs recorded index order)
unfolding plan_of
plan_names source inputs recorded index order =
    from_source source (source_of source) _ (line_of (line_count source) (source_of source) (source-fault source)) (result-ruled source (source_of source) (given_is (source_of source))) (λ game within.
    from_program source game.rules (program_of game) _ within (program_of-lined game) (λ program.
    from_level source (level_from game index) (plan_at game program inputs recorded order)))

-- the faults of a job's sessions
pub job_names : (order : Order) (entries : List Entry) (job : List Case) → job ≡ job_of order entries → NameLines entries job
job_names order entries job is number entry case within =
    let e = get_or entries number entry in
    let same : get_or job number case ≡ case_of order e = ap (λ (l : List Case). get_or l number case) is ∙ get_or-map (case_of order) entries number entry case within in
    subst (λ (c : Case). NamesALine e.source c.plan) (sym same) (plan_names e.source e.inputs e.recorded e.index order)
