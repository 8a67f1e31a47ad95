use Rattle.std.proofs.Common.{◌≡◌, ℕ, List, subst}
use Rattle.std.specs.List.{All}
use Rattle.pz_base.specs.NameSet.{number_in}
use Rattle.pz_job.proofs.same.same_line.Goals as goal

pub returns-else-have_same_names : goal.returns-else-have_same_names
returns-else-have_same_names c = λ same. record {
  words = c.same.ensures c.if-same.true;
  numbers = subst (λ words. All (λ (w : List ℕ). number_in c.args.game.now.names w ≡ number_in c.args.other.now.names w) words) c.items.ensures (c.same_numbers.ensures same);
}
