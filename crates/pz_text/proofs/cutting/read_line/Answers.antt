use Rattle.std.proofs.Common.{◌≡◌, ◌==◌, [], true, false, sym, ap, ◌∙◌, rules}
use Rattle.std.specs.List.{list_any}
use Rattle.pz_text.specs.Comment.{outside, depth_after}
use Rattle.pz_text.proofs.TextLemmas.{outside-plain, depth_after-plain}
use Rattle.pz_text.proofs.cutting.read_line.Goals as goal

pub line_of-requires-clause-left : goal.line_of-requires-clause-left
line_of-requires-clause-left c =
    let line = c.trimmed-line.result.now in
    let section = c.args.before.section in
    let shut : c.args.before.depth ≡ 0 = search rules in
    let none : list_any (λ x. x == 40) line ≡ false = search rules in
    sym (ap (λ d. outside section true [] d line) shut ∙ outside-plain section true [] line none)

pub line_of-requires-clause-depth : goal.line_of-requires-clause-depth
line_of-requires-clause-depth c =
    let line = c.trimmed-line.result.now in
    let section = c.args.before.section in
    let shut : c.args.before.depth ≡ 0 = search rules in
    let none : list_any (λ x. x == 40) line ≡ false = search rules in
    sym (ap (λ d. depth_after section true [] d line) shut ∙ depth_after-plain section true [] line none)
