use Rattle.std.proofs.Common.{◌≡◌, ℕ, List, ap, sym, ◌∙◌, subst}
use Rattle.std.specs.Prelude.{IfOk}
use Rattle.pz_bare.specs.Differing.{DifferWithin}
use Rattle.pz_bare.proofs.DifferingLemmas.{same_without}
use Rattle.pz_sheet.specs.Grid.{Grid, LevelState}
use Rattle.pz_solve.proofs.origin.Origin.take_equal.Goals as goal
use Rattle.pz_solve.proofs.origin.Origin.take_equal.Goals.{Joined-take, in-Some, in-None}

-- the level that is kept is the one from which presses are tried
is_origin : (c : Joined-take) → c.self.inside.level.grid ≡ c.args.self.now.grid
is_origin c = ap (λ h. h.grid) (c.self.view_is ∙ c.settle.ensures)

pub returns-clause-equal : goal.returns-clause-equal
returns-clause-equal c =
    let grid = c.self.inside.level.grid in
    elim c.match-take.branch [
      | in-Some w ↦ (
          let played = c.self.invariant.played w.in-Some.equal (sym c.take.ensures.value ∙ w.in-Some.is) in
          let none = ap (λ h. h.changed) (c.self.view_is ∙ c.settle.ensures) in
          let equal = same_without w.in-Some.equal.grid grid played.size played.long (subst (λ (l : List ℕ). DifferWithin l w.in-Some.equal.grid grid) none played.rest) in
          rw w.result-is (equal ∙ is_origin c)
          )
      | in-None w ↦ (
          rw w.result-is (subst (λ (g : Grid). IfOk w.copied.result (λ (level : LevelState). level.grid ≡ g)) (is_origin c) w.copied.ensures.copied)
          )
    ]
