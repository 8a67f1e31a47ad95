use Rattle.std.proofs.Common.{◌≡◌, ◌<◌, ◌+◌, ◌++◌, ◌∷◌, [], ap, get_or, map, take, sym, ◌∙◌, length, string_bytes, rules, arith}
use Rattle.std.proofs.lemmas.List.{get_or-map, map-append}
use Rattle.pz_base.proofs.ListLemmas.{take-next}
use Rattle.pz_base.proofs.name_set.NameSet.same.Goals as goal

pub loop-number-preserved : goal.loop-number-preserved
loop-number-preserved c =
    let texts = c.as_slice-texts.result.now in
    let others = c.as_slice-others.result.now in
    let n = c.loop-number.number in
    let text = c.index-texts-number.result in
    let other = c.index-others-number.result in
    let within : n < length others = omega (arith, c.loop-number-test.true, c.loop-number.invariant.0) in
    let one : map string_bytes (take (n + 1) texts) ≡ map string_bytes (take n texts) ++ string_bytes text ∷ [] = ap (map string_bytes) (take-next texts n text c.loop-number-test.true c.index-texts-number.is) ∙ map-append string_bytes (take n texts) (text ∷ []) in
    let more : map string_bytes (take (n + 1) others) ≡ map string_bytes (take n others) ++ string_bytes other ∷ [] = ap (map string_bytes) (take-next others n other within c.index-others-number.is) ∙ map-append string_bytes (take n others) (other ∷ []) in
    let same : string_bytes text ≡ string_bytes other = search rules in
    (c.loop-number.invariant.0, one ∙ (rw (c.loop-number.invariant.1, same) (sym more)))

pub returns-then-ne : goal.returns-then-ne
returns-then-ne c =
    let texts = c.as_slice-texts.result.now in
    let others = c.as_slice-others.result.now in
    let n = c.loop-number.number in
    let text = c.index-texts-number.result in
    let other = c.index-others-number.result in
    let within : n < length others = omega (arith, c.loop-number-test.true, c.loop-number.invariant.0) in (
      (λ yes. absurd (search rules)),
      (λ same.
          let names : map string_bytes texts ≡ map string_bytes others = search (rules, same) in
          let equal : string_bytes (get_or texts n text) ≡ string_bytes (get_or others n other) =
          sym (get_or-map string_bytes texts n text [] c.loop-number-test.true) ∙ (ap (λ all. get_or all n []) names ∙ get_or-map string_bytes others n other [] within) in
          let told : c.as_str.result.now ≡ c.as_str-in-loop-number.result.now = cc in
          absurd (search rules)),
    )
