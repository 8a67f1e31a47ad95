use Rattle.pz_cells.proofs.Common.{ℕ, ◌≡◌, ◌&&◌, ◌||◌, Bool, not, nat_eq, ap, ◌∙◌, subst, same_dir, Dir, heads}
use Rattle.pz_cells.proofs.PlaceLemmas.{changes_turned}
use Rattle.pz_cells.proofs.cell.Cell.turn.Goals as goal

pub returns-then-has-clause-turned : goal.returns-then-has-clause-turned
returns-then-has-clause-turned g c here =
    let old = c.args.self.now in
    let layer = c.layer_of-layer.result in
    changes_turned c.args.layers.now.layers old.objects old.movement c.set.new.set c.args.object c.args.dir c.requires.sound here
    (subst (λ (k : ℕ). (other : ℕ) (way : Dir) → heads c.set.new.set other way ≡ ((nat_eq other k && same_dir c.args.dir way) || (not (nat_eq other k) && heads old.movement other way))) c.layer_of-layer.ensures.layer
    (λ other way. c.set.ensures.heads other way ∙ ap (λ (b : Bool). (nat_eq other layer && same_dir c.args.dir way) || b) (c.clear.ensures.heads other way)))
    (c.set.ensures.proper (c.clear.ensures.proper c.requires.sound.proper))
