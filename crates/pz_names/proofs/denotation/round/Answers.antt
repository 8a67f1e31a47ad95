use Rattle.std.proofs.Common.{◌≡◌, ◌+◌, ◌||◌, length, refl, ap, sym, subst, ◌∙◌, arith}
use Rattle.std.proofs.lemmas.Option.{slice_get_read}
use Rattle.pz_names.specs.Denotation.{known_at, IsRound}
use Rattle.pz_names.proofs.RoundLemmas.{round-step}
use Rattle.pz_names.proofs.denotation.round.Goals as goal
use Rattle.pz_names.proofs.denotation.round.Goals.{then-noted, else-noted}

pub loop-number-preserved : goal.loop-number-preserved
loop-number-preserved c =
    let meanings = c.args.meanings.now in
    let i = c.loop-number.number in
    let x = c.index-meanings-number.result in
    let found = c.loop-number.found in
    let noted = c.in_ok-noted.noted in
    let step =
    round-step meanings (known_at c.args.known.now) (known_at c.loop-number.known) (known_at c.settle.new.known) i x found noted c.loop-number.invariant.round
    (slice_get_read meanings (length meanings) i x refl c.loop-number-test.true c.index-meanings-number.is) c.in_ok-noted.ensures.each c.in_ok-noted.ensures.same in
    let now : (noted || found) ≡ c.if-noted.found =
    elim c.if-noted.branch [ then-noted w ↦ ap (λ b. b || found) w.if-noted.true ∙ (sym w.if-noted.true ∙ sym w.found-is) | else-noted w ↦ ap (λ b. b || found) w.if-noted.false ∙ sym w.found-is ] in
    record {
      count = omega (arith, c.loop-number.invariant.count, c.settle.auto.known);
      round = subst (IsRound meanings (known_at c.args.known.now) (known_at c.settle.new.known) (i + 1)) now step;
    }
