use Rattle.std.proofs.Common.{List, ℕ, subst, arith, ap, sym, ◌∙◌}
use Rattle.pz_program.specs.Instance.{AreGroupsOf}
use Rattle.pz_sheet.specs.Grid.{Grid}
use Rattle.pz_trace.specs.FiringPlay.{IsAllowed, first_spot}
use Rattle.pz_trace.proofs.Going.{groups_of_block}
use Rattle.pz_trace.proofs.firings.Firings.new.Goals as goal

pub invariant_of-result : goal.invariant_of-result
invariant_of-result c =
    let of_game = groups_of_block c.args.game.now.layers c.args.block.now c.requires.block_of in
    let first : IsAllowed first_spot = record { pass = omega arith; round = omega arith } in
    record {
      groups =
          subst (λ (layers : List ℕ). AreGroupsOf layers c.groups_of.result.now) (sym (ap (λ (grid : Grid). grid.layers) c.in_ok-copy.ensures.copied ∙ c.requires.level_of.layers))
          (subst (AreGroupsOf c.args.game.now.layers) (sym c.groups_of.ensures) of_game);
      allowed = subst IsAllowed (sym c.first_spot.ensures) first;
    }
