use Rattle.std.proofs.Common.{◌≤◌, List, length, take, ap, sym, subst, ◌∙◌}
use Rattle.pz_text.specs.Section.{before_heading}
use Rattle.pz_text.specs.declared.line.Line.{Line}
use Rattle.pz_text.proofs.SectionLemmas.{before_short, before_begins}
use Rattle.pz_text.proofs.section.around.Goals as goal

pub split_at-requires-2 : goal.split_at-requires-2
split_at-requires-2 c =
    let begun = c.lines_from-begun.result.now in
    let rest = c.split_at.ensures.back ∙ c.lines_from-begun.ensures.end in
    subst (λ (own : List Line). length own ≤ length c.split_at.result.1.now) (sym c.before_heading.ensures) (subst (λ (all : List Line). length (before_heading begun) ≤ length all) (sym rest) (before_short begun))

pub returns-clause-own : goal.returns-clause-own
returns-clause-own c =
    let begun = c.lines_from-begun.result.now in
    let rest = c.split_at.ensures.back ∙ c.lines_from-begun.ensures.end in
    c.split_at-2.ensures.front
    ∙ ap (λ (own : List Line). take (length own) c.split_at.result.1.now) c.before_heading.ensures
    ∙ ap (take (length (before_heading begun))) rest
    ∙ before_begins begun
    ∙ c.lines_from-begun.ensures.begins
