use Rattle.std.proofs.Common.{◌≡◌, ◌∷◌, [], ◌++◌, length, length-append, ap, ◌∙◌, arith}
use Rattle.std.specs.Prelude.{None}
use Rattle.pz_names.specs.Denotation.{known_at}
use Rattle.pz_names.proofs.MemberLemmas.{known_at-more}
use Rattle.pz_names.proofs.denotation.nothing_known.Goals as goal

pub loop-number-preserved : goal.loop-number-preserved
loop-number-preserved c =
    let items = c.loop-number.known.items in
    let before = c.loop-number.invariant in
    let pushed : c.push.new.self.items ≡ items ++ None ∷ [] = c.in_ok-push.ensures.items in
    record {
      count = omega (arith, before.count, ap length pushed, length-append items (None ∷ []));
      empty = λ k. ap (λ table. known_at table k) pushed ∙ known_at-more items before.empty k;
    }
