use Rattle.std.proofs.Common.{◌≡◌, ◌≤◌, ◌-◌, List, length, drop, sym, subst}
use Rattle.pz_text.specs.declared.line.Line.{Line}
use Rattle.pz_text.proofs.SectionLemmas.{behind_short, behind_ends}
use Rattle.pz_text.proofs.section.lines_from.Goals as goal

pub returns-in_default-clause-short : goal.returns-in_default-clause-short
returns-in_default-clause-short c =
    let lines = c.args.lines.now in
    subst (λ (rest : List Line). length rest ≤ length lines) (sym c.behind_heading.ensures) (behind_short c.args.section lines)

pub returns-in_default-clause-end : goal.returns-in_default-clause-end
returns-in_default-clause-end c =
    let lines = c.args.lines.now in
    subst (λ (rest : List Line). drop (length lines - length rest) lines ≡ rest) (sym c.behind_heading.ensures) (behind_ends c.args.section lines)
