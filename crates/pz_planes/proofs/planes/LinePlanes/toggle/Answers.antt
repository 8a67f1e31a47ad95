use Rattle.std.proofs.Common.{arith}
use Rattle.std.proofs.lemmas.List.{get_or_default}
use Rattle.pz_planes.proofs.PlaneLemmas.{toggled_word}
use Rattle.pz_planes.proofs.ToggleLemmas.{member_toggled}
use Rattle.pz_planes.proofs.planes.LinePlanes.toggle.Goals as goal

pub returns-then-at : goal.returns-then-at
returns-then-at c =
    let words = c.self.inside.words.items in
    let index = c.index-index.result in
    toggled_word c.args.self.now _ c.args.object c.args.line c.args.at (grind (arith, c.self.view_is)) (grind (arith, c.self.view_is)) c.requires.line_in c.if-at.true
    (λ number. grind (arith, member_toggled words index c.args.at c.toggled.result number, c.toggled.ensures, c.index.ensures, get_or_default words index c.index.result.now 0, c.index-index.ensures, c.self.view_is))
