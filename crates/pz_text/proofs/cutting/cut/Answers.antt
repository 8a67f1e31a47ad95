use Rattle.std.proofs.Common.{◌≡◌, ◌==◌, Bor, List, ℕ, map, length, ap, ◌∙◌, arith, refl}
use Rattle.std.proofs.lemmas.List.{length-map}
use Rattle.std.proofs.lemmas.List.Splits.{length-slice_split}
use Rattle.std.proofs.lemmas.List.Sums.{count_by-le-length}
use Rattle.std.specs.List.{slice_split, sum_by}
use Rattle.pz_text.proofs.TextLemmas.{total-slice_split, total-now}
use Rattle.pz_text.proofs.cutting.cut.Goals as goal

pub loop-part-init : goal.loop-part-init
loop-part-init c =
    let parts = c.deref-part-items.result.now in
    let text = c.args.text.now in
    let cut_at = slice_split (λ x. x == 10) text in
    let same : map (λ (p : Bor (List ℕ)). p.now) parts ≡ cut_at = ap (map (λ (p : Bor (List ℕ)). p.now)) c.deref-part-items.ensures.value ∙ c.in_ok-parts.ensures in
    record {
      lines = rw (c.new-lines.ensures.items, same) refl;
      count = refl;
      many = omega (arith, length-map parts (λ p. p.now), ap length same, length-slice_split (λ x. x == 10) text, count_by-le-length (λ x. x == 10) text);
      depth = omega (arith, total-now parts, ap (sum_by length) same, total-slice_split (λ x. x == 10) text);
    }
