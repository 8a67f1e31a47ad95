use Rattle.std.proofs.Common.{◌≡◌, ◌++◌, List, ap, sym, ◌∙◌, refl}
use Rattle.std.specs.Prelude.{None, Some, Ok, Err}
use Rattle.pz_base.specs.Fault.{or_else, unless, and_then}
use Rattle.pz_base.proofs.FaultLemmas.{unless-hit, unless-pass}
use Rattle.pz_text.specs.declared.line.Line.{Line}
use Rattle.pz_text.specs.Section.{lines_in}
use Rattle.pz_text.specs.declared.line.Section.TheVariants as section
use Rattle.pz_names.proofs.ObjectLemmas.{found-none, found-later}
use Rattle.pz_source.specs.Profile.{outside_profile}
use Rattle.pz_source.specs.Rules.{rule_lines}
use Rattle.pz_source.proofs.FoundLemmas.{found-refused}
use Rattle.pz_source.proofs.ProfileLemmas.{outside_of_parts}
use Rattle.pz_source.proofs.profile.read_rules.Goals as goal

-- the fault of all lines, by those of the parts
parts : (lines before own behind : List Line) → lines ≡ before ++ (own ++ behind) → outside_profile lines ≡ or_else (outside_profile before) (or_else (outside_profile own) (outside_profile behind))
parts lines before own behind whole = ap outside_profile whole ∙ outside_of_parts before own behind

pub returns-in-Some : goal.returns-in-Some
returns-in-Some c =
    let lines = c.args.lines.now in
    let own = c.around.result.1.now in
    let later = rule_lines (lines_in section.Rules lines) in
    let all = parts lines c.around.result.0.now own c.around.result.2.now c.around.ensures.whole in
    let hit : outside_profile c.around.result.0.now ≡ Some c.in-Some.fault = sym c.in_ok-fault.ensures ∙ c.in-Some.is in
    sym (unless-hit (outside_profile lines) (Ok later) c.in-Some.fault (all ∙ rw hit refl))

pub returns-in-Err : goal.returns-in-Err
returns-in-Err c =
    let lines = c.args.lines.now in
    let own = c.around.result.1.now in
    let later = rule_lines (lines_in section.Rules lines) in
    let all = parts lines c.around.result.0.now own c.around.result.2.now c.around.ensures.whole in
    let before : outside_profile c.around.result.0.now ≡ None = sym c.in_ok-fault.ensures ∙ c.in_default.is in
    let refused : Err c.in-Err.fault ≡ unless (outside_profile own) (Ok (rule_lines own)) = ap (and_then (λ rules. Ok rules.items)) (sym c.in-Err.is) ∙ c.in_ok-found.ensures in
    let hit = found-refused (outside_profile own) (rule_lines own) c.in-Err.fault refused in
    sym (unless-hit (outside_profile lines) (Ok later) c.in-Err.fault (all ∙ rw (before, hit) refl))

pub returns-in-Some-2 : goal.returns-in-Some-2
returns-in-Some-2 c =
    let lines = c.args.lines.now in
    let own = c.around.result.1.now in
    let later = rule_lines (lines_in section.Rules lines) in
    let all = parts lines c.around.result.0.now own c.around.result.2.now c.around.ensures.whole in
    let before : outside_profile c.around.result.0.now ≡ None = sym c.in_ok-fault.ensures ∙ c.in_default.is in
    let found : Ok c.in-Ok.found.items ≡ unless (outside_profile own) (Ok (rule_lines own)) = ap (and_then (λ rules. Ok rules.items)) (sym c.in-Ok.is) ∙ c.in_ok-found.ensures in
    let inside = found-none (outside_profile own) c.in-Ok.found.items (rule_lines own) found in
    let hit : outside_profile c.around.result.2.now ≡ Some c.in-Some-2.fault = sym c.in_ok-fault-2.ensures ∙ c.in-Some-2.is in
    sym (unless-hit (outside_profile lines) (Ok later) c.in-Some-2.fault (all ∙ rw (before, inside, hit) refl))

pub returns : goal.returns
returns c =
    let lines = c.args.lines.now in
    let own = c.around.result.1.now in
    let later = rule_lines (lines_in section.Rules lines) in
    let all = parts lines c.around.result.0.now own c.around.result.2.now c.around.ensures.whole in
    let before : outside_profile c.around.result.0.now ≡ None = sym c.in_ok-fault.ensures ∙ c.in_default.is in
    let found : Ok c.in-Ok.found.items ≡ unless (outside_profile own) (Ok (rule_lines own)) = ap (and_then (λ rules. Ok rules.items)) (sym c.in-Ok.is) ∙ c.in_ok-found.ensures in
    let inside = found-none (outside_profile own) c.in-Ok.found.items (rule_lines own) found in
    let behind : outside_profile c.around.result.2.now ≡ None = sym c.in_ok-fault-2.ensures ∙ c.in_default-2.is in
    let read = found-later (outside_profile own) c.in-Ok.found.items (rule_lines own) found in
    ap (λ rules. Ok rules) (read ∙ ap rule_lines c.around.ensures.own) ∙ sym (unless-pass (outside_profile lines) (Ok later) (all ∙ rw (before, inside, behind) refl))
