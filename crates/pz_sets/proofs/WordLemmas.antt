-- The bits of a word, as tests.
use Rattle.std.proofs.Common.{◌≡◌, ℕ, ◌-◌, ◌^◌, ◌<◌, false, not, ◌&&◌, ◌||◌, bit_and, bit_or, bit_xor, cond, arith, ap, nat_eq}
use Rattle.std.specs.Int.{bit_at}
use Rattle.std.proofs.lemmas.Nat.Bits.{bit_at_and, bit_at_or, bit_at_xor, bit_at-lt, same_from_bits_below, bit_at-zero}
use Rattle.pz_sets.specs.Sets.{in_word}

-- a bit that is a given number answers the test alike
pub in_word-from : (a i n : ℕ) → bit_at a i ≡ n → in_word a i ≡ nat_eq n 1
in_word-from a i n e = ap (λ (k : ℕ). nat_eq k 1) e

pub flip_bit : (x y : ℕ) → y ≡ 1 - x → x < 2 → nat_eq y 1 ≡ not (nat_eq x 1)
flip_bit x y e p = grind arith

pub in_word-or : (a b i : ℕ) → in_word (bit_or a b) i ≡ (in_word a i || in_word b i)
in_word-or a b i = grind (arith, bit_at_or a b i, bit_at-lt a i, bit_at-lt b i)

pub in_word-and : (a b i : ℕ) → in_word (bit_and a b) i ≡ (in_word a i && in_word b i)
in_word-and a b i = grind (arith, bit_at_and a b i, bit_at-lt a i, bit_at-lt b i)

pub in_word-xor : (a b i : ℕ) → in_word (bit_xor a b) i ≡ cond (in_word a i) (not (in_word b i)) (in_word b i)
in_word-xor a b i = grind (arith, bit_at_xor a b i, bit_at-lt a i, bit_at-lt b i)

pub in_word-zero : (i : ℕ) → in_word 0 i ≡ false
in_word-zero i = in_word-from 0 i 0 (bit_at-zero i)

-- words with the same bits are one
pub same_below : (a b : ℕ) → a < 2 ^ 128 → b < 2 ^ 128 → ((i : ℕ) → i < 128 → in_word a i ≡ in_word b i) → a ≡ b
same_below a b p q h = same_from_bits_below 128 a b p q (λ i low. grind (arith, bit_at-lt a i, bit_at-lt b i, h i low))

-- what `&`, `|` and `^` do to each bit
pub ruleset bits = (in_word-or, in_word-and, in_word-xor)
