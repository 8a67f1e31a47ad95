-- What a union of sets of commands holds.
use Rattle.std.proofs.Common.{◌≡◌, ℕ, ◌*◌, ◌<◌, ◌^◌, true, false, ◌||◌, ◌==◌, zero, suc, max, ap, sym, ◌∙◌, arith}
use Rattle.std.proofs.lemmas.Bool.{or_left, or_right, or_from, eqb-true, eq-eqb, false_from_ne_true}
use Rattle.std.proofs.lemmas.Nat.{pow_pos}
use Rattle.std.proofs.lemmas.Nat.Bits.{and_pow, bit_at_or, bit_at-lt}
use Rattle.std.specs.Int.{bit_at}
use Rattle.std.specs.Int.Bits.{bit_and, bit_or, and_zero_r}
use Rattle.pz_program.specs.declared.commands.Commands.{Commands}
use Rattle.pz_grammar.specs.declared.token.Command.TheVariants as command
use Rattle.pz_program.specs.Commands.{has, either, no_commands}
use Rattle.pz_plan.specs.Laws.{UnionsHoldEither}

unset : (p : ℕ) → 0 < p → (0 * p == p) ≡ false
unset p pos = false_from_ne_true (0 * p == p) (λ h. let e : 0 * p ≡ p = eqb-true (0 * p) p h in omega arith)

is_set : (p : ℕ) → (1 * p == p) ≡ true
is_set p = eq-eqb (1 * p) p (omega arith)

-- of two bits, the greater is set if one of the two is
greater_set : (x y p : ℕ) → x < 2 → y < 2 → 0 < p → (max x y * p == p) ≡ ((x * p == p) || (y * p == p))
greater_set zero zero p f g pos = unset p pos ∙ sym (or_from (0 * p == p) (0 * p == p) (unset p pos) (unset p pos))
greater_set zero (suc zero) p f g pos = is_set p ∙ sym (or_right (0 * p == p) (1 * p == p) (is_set p))
greater_set (suc zero) zero p f g pos = is_set p ∙ sym (or_left (1 * p == p) (0 * p == p) (is_set p))
greater_set (suc zero) (suc zero) p f g pos = is_set p ∙ sym (or_left (1 * p == p) (1 * p == p) (is_set p))
greater_set (suc (suc x)) y p f g pos = absurd (omega arith)
greater_set zero (suc (suc y)) p f g pos = absurd (omega arith)
greater_set (suc zero) (suc (suc y)) p f g pos = absurd (omega arith)

union_bit : (a b k : ℕ) → (bit_and (bit_or a b) (2 ^ k) == 2 ^ k) ≡ ((bit_and a (2 ^ k) == 2 ^ k) || (bit_and b (2 ^ k) == 2 ^ k))
union_bit a b k =
    let p = 2 ^ k in
    ap (λ n. n == p) (and_pow (bit_or a b) k)
    ∙ ap (λ n. n * p == p) (bit_at_or a b k)
    ∙ greater_set (bit_at a k) (bit_at b k) p (bit_at-lt a k) (bit_at-lt b k) (pow_pos k)
    ∙ ap (λ n. (n == p) || (bit_at b k * p == p)) (sym (and_pow a k))
    ∙ ap (λ n. (bit_and a p == p) || (n == p)) (sym (and_pow b k))

has_none : (c : Commands) → has c no_commands ≡ true
has_none c = eq-eqb (bit_and c.0 0) 0 (and_zero_r c.0)

union_none : (a b : Commands) → has (either a b) no_commands ≡ (has a no_commands || has b no_commands)
union_none a b = has_none (either a b) ∙ sym (or_left (has a no_commands) (has b no_commands) (has_none a))

pub unions_hold : UnionsHoldEither
unions_hold command.Again a b = union_bit a.0 b.0 0
unions_hold command.Cancel a b = union_bit a.0 b.0 1
unions_hold command.Checkpoint a b = union_bit a.0 b.0 2
unions_hold command.Restart a b = union_bit a.0 b.0 3
unions_hold command.Win a b = union_bit a.0 b.0 4
unions_hold (command.Sound number) a b = union_none a b
unions_hold command.Message a b = union_none a b
