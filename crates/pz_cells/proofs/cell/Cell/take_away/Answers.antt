use Rattle.pz_cells.proofs.Common.{ℕ, ◌≡◌, ◌&&◌, not, nat_eq, arith, subst, member}
use Rattle.pz_cells.proofs.MoverLemmas.{mover_low, mover_stands, taken}
use Rattle.pz_cells.proofs.cell.Cell.take_away.Goals as goal

pub flag-requires : goal.flag-requires
flag-requires g c = omega (arith, mover_low _ _ _ _ c.depth.ensures.law.layered c.requires.sound c.args.mover c.requires.there, c.depth.ensures.law.shallow)

pub returns : goal.returns
returns g c =
    let old = c.args.self.now in
    let movement = subst (λ (flag : ℕ). (number : ℕ) → member c.remove-2.new.words number ≡ (not (nat_eq number flag) && member old.movement number)) c.flag.ensures.number c.remove-2.ensures in
    let taken = taken _ _ _ _ c.depth.ensures.law.layered c.requires.sound c.args.mover c.requires.there c.remove.new.words c.remove-2.new.words c.remove.ensures movement in
    record { sound = taken.0; cell = taken.1; movement = λ number here. grind (arith, movement number, here); objects = c.remove.ensures; stood = mover_stands _ _ _ _ c.depth.ensures.law.layered c.requires.sound c.args.mover c.requires.there }
