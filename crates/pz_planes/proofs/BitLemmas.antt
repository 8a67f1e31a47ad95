-- The bits of a word that is shifted.
use Rattle.std.proofs.Common.{◌≡◌, ℕ, ◌+◌, ◌-◌, ◌*◌, ◌/◌, ◌%◌, ◌^◌, ◌<◌, ◌≤◌, true, arith}
use Rattle.std.specs.Int.{bit_at}
use Rattle.std.proofs.lemmas.Nat.{shr-shr}
use Rattle.std.proofs.lemmas.Nat.Bits.{bit_at_cat_low, bit_at_cat_high, bit_at_ones}
use Rattle.std.proofs.Math.Pow.{pow-sub-lt}
use Rattle.pz_sets.specs.Sets.{in_word}
use Rattle.pz_sets.proofs.WordLemmas.{in_word-from, in_word-and, in_word-or}
use Rattle.pz_planes.specs.declared.line.Way.{Way}
use Rattle.pz_planes.specs.Line.{step_to, room_from}

pub all_bits : (at : ℕ) → at < 128 → in_word (2 ^ 128 - 1) at ≡ true
all_bits at low = in_word-from _ at 1 (bit_at_ones 128 at low)

pub bit_ahead : (word k at : ℕ) → in_word (word / 2 ^ k) at ≡ in_word word (at + k)
bit_ahead word k at = grind (arith, shr-shr word k at)

-- the bits that are left of a word from one on
pub bit_left : (word from number : ℕ) → from ≤ number → in_word word number ≡ in_word (word / 2 ^ from) (number - from)
bit_left word from number h = grind (arith, bit_ahead word from (number - from))

-- a word that lost its high bits has the low ones
wrapped : (x n : ℕ) → n < 128 → bit_at (x % 340282366920938463463374607431768211456) n ≡ bit_at x n
wrapped x n low = grind (arith, bit_at_cat_low (x / 340282366920938463463374607431768211456) 128 (x % 340282366920938463463374607431768211456) n low)

pub bit_back : (word k at : ℕ) → at < 128 → k ≤ at → in_word (word * 2 ^ k % 340282366920938463463374607431768211456) at ≡ in_word word (at - k)
bit_back word k at low from =
    let some : 0 < 2 ^ k = omega (arith, pow-sub-lt k {a = 1} (omega arith)) in
    grind (arith, wrapped (word * 2 ^ k) at low, bit_at_cat_high word k 0 at some from)

-- a position some steps on is of the line, where there is room
pub step_within : (long : ℕ) (way : Way) (at k : ℕ) → at < long → k < room_from long way at → step_to way at k < long
step_within long way at k at_in room = grind arith

-- the positions that two sets have in common, and those of either
pub ruleset joining = (in_word-and, in_word-or, all_bits)
