use Rattle.std.proofs.Common.{◌≡◌, ap, sym, subst, ◌∙◌}
use Rattle.std.specs.Prelude.{None, Ok, Err, IfOk}
use Rattle.pz_base.specs.Fault.{unless, and_then}
use Rattle.pz_text.specs.Section.{lines_in}
use Rattle.pz_text.specs.declared.line.Section.TheVariants as section
use Rattle.pz_names.specs.Objects.{objects_of}
use Rattle.pz_names.proofs.ObjectLemmas.{found-none}
use Rattle.pz_source.specs.Profile.{outside_profile}
use Rattle.pz_source.specs.Rules.{rule_lines}
use Rattle.pz_source.specs.Reading.{game_of_lines}
use Rattle.pz_source.proofs.FoundLemmas.{found-refused}
use Rattle.pz_source.proofs.GameLemmas.{at_profile, at_objects, behind_objects}
use Rattle.pz_source.proofs.reading.read_game_of_lines.Goals as goal

pub returns-in-Err : goal.returns-in-Err
returns-in-Err c =
    let lines = c.args.lines.now in
    let rules = rule_lines (lines_in section.Rules lines) in
    let check = outside_profile lines in
    let refused : Err c.in-Err.fault ≡ unless check (Ok rules) = rw c.in-Err.is at c.in_ok-found.ensures in
    sym (at_profile lines c.in-Err.fault (found-refused check rules c.in-Err.fault refused))

pub returns-in-Err-2 : goal.returns-in-Err-2
returns-in-Err-2 c =
    let lines = c.args.lines.now in
    let rules = rule_lines (lines_in section.Rules lines) in
    let check = outside_profile lines in
    let found : Ok c.in-Ok.found.items ≡ unless check (Ok rules) = rw c.in-Ok.is at c.in_ok-found.ensures in
    let inside : check ≡ None = found-none check c.in-Ok.found.items rules found in
    let part = c.lines_in.result.now in
    let refused : Err c.in-Err-2.fault ≡ objects_of part = rw c.in-Err-2.is at c.in_ok-found-2.ensures.read in
    sym (at_objects lines part c.lines_in.ensures inside c.in-Err-2.fault (sym refused))

pub returns : goal.returns
returns c =
    let lines = c.args.lines.now in
    let rules = rule_lines (lines_in section.Rules lines) in
    let check = outside_profile lines in
    let found : Ok c.in-Ok.found.items ≡ unless check (Ok rules) = rw c.in-Ok.is at c.in_ok-found.ensures in
    let inside : check ≡ None = found-none check c.in-Ok.found.items rules found in
    let part = c.lines_in.result.now in
    let objects = c.as_slice.result.now in
    let read : Ok c.in-Ok-2.found.0.items ≡ objects_of part = rw c.in-Ok-2.is at c.in_ok-found-2.ensures.read in
    let same = behind_objects lines objects part c.lines_in.ensures inside (sym read ∙ ap (λ os. Ok os) (sym c.as_slice.ensures.value)) in
    subst (λ answer. IfOk c.read_over_objects.result (λ game. game ≡ answer)) (sym same) c.read_over_objects.ensures
