use Rattle.std.proofs.Common.{◌≡◌, ap, sym, ◌∙◌, subst, Ok}
use Rattle.std.specs.Arc.{arc_value}
use Rattle.pz_program.specs.Instance.{IsProgramOf}
use Rattle.pz_rules.specs.Drafts.{program_of}
use Rattle.pz_job.proofs.SameRules.{same_program}
use Rattle.pz_job.proofs.programs.Expanded.program_for.Goals as goal

pub returns-then-same_rules : goal.returns-then-same_rules
returns-then-same_rules c =
    let expanded = c.args.self.now in
    let program = arc_value expanded.program in
    let same = c.same_rules.ensures c.if-same_rules.true in
    let game : c.game.result.now ≡ (arc_value expanded.rulebook).game = c.game.ensures.game ∙ ap (λ r. r.game) c.deref.ensures in
    let made : program_of c.game.result.now ≡ Ok program = ap program_of game ∙ expanded.made in
    let layers : c.deref.result.now.game.layers ≡ c.args.game.now.layers = ap (λ g. g.layers) (sym c.game.ensures.game) ∙ same.layers in
    let is : c.deref.result.now.program ≡ program = ap (λ r. r.program) c.deref.ensures ∙ expanded.same in
    record {
      made = same_program c.game.result.now c.args.game.now same program made;
      owned = subst (λ p. IsProgramOf c.args.game.now.layers p) is (subst (λ l. IsProgramOf l c.deref.result.now.program) layers c.game.ensures.program_of);
    }
