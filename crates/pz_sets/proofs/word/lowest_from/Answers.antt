use Rattle.std.proofs.Common.{◌≡◌, inl, inr, ℕ, ◌<◌, ◌≤◌, ◌^◌, ◌-◌, ◌*◌, ◌%◌, ◌&&◌, Bool, bit_and, true, false, arith, ap, sym, ◌∙◌}
use Rattle.std.proofs.lemmas.Bool.{cases_lt}
use Rattle.std.proofs.lemmas.Nat.Bits.{ones_shl, bit_at_mask_inside, bit_at_mask_below}
use Rattle.pz_sets.specs.Sets.{in_word}
use Rattle.pz_sets.proofs.WordLemmas.{in_word-and, in_word-zero}
use Rattle.pz_sets.proofs.word.lowest_from.Goals as goal

-- what the code computes keeps the bits from the place on, and no other
inside : (word start bit : ℕ) → start ≤ bit → bit < 128 → in_word (bit_and word (340282366920938463463374607431768211455 * 2 ^ start % 340282366920938463463374607431768211456)) bit ≡ in_word word bit
inside word start bit from low = grind (arith, ones_shl 128 start (omega arith), in_word-and word (2 ^ 128 - 2 ^ start) bit, bit_at_mask_inside start 128 bit from low)

below : (word start bit : ℕ) → start < 128 → bit < start → in_word (bit_and word (340282366920938463463374607431768211455 * 2 ^ start % 340282366920938463463374607431768211456)) bit ≡ false
below word start bit low before = grind (arith, ones_shl 128 start (omega arith), in_word-and word (2 ^ 128 - 2 ^ start) bit, bit_at_mask_below start 128 bit before)

pub returns-then-rest-eq0 : goal.returns-then-rest-eq0
returns-then-rest-eq0 c bit from low = grind (arith, inside c.args.word c.args.start bit from low, in_word-zero bit)

pub returns-else-rest-eq0 : goal.returns-else-rest-eq0
returns-else-rest-eq0 c =
    let word = c.args.word in
    let start = c.args.start in
    let found = c.lowest.result in
    let from : start ≤ found = grind (arith, below word start found) in
    (from, c.lowest.ensures.below, grind (arith, inside word start found), λ bit above before. grind (arith, inside word start bit above, c.lowest.ensures.least bit before))
