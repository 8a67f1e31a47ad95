-- Digests of which one word is replaced. Mixing is linear, modulo a size.
use Rattle.std.proofs.Common.{◌≡◌, ℕ, zero, suc, ◌+◌, ◌*◌, ◌-◌, ◌%◌, ◌^◌, ◌<◌, List, [], ◌∷◌, fold, length, set, Some, get_or, ap, sym, ◌∙◌, arith}
use Rattle.std.specs.Prelude.{slice_get}
use Rattle.std.proofs.lemmas.Nat.{mul-mod_first, mul-mod_second}
use Rattle.std.proofs.lemmas.Option.{get_or_from_slice_get, slice_get_within}
use Rattle.std.proofs.Math.Nat.{add-mod_right, mod-add-mod, zero-mod, add-mod-mod, mod-mod, add-mul, mul_assoc, mul-one, pow-zero, pow-succ'}

module _ (size factor : ℕ) where
  abbrev pub mix : ℕ → ℕ → ℕ
  mix digest word = (((digest + word) % size) * factor) % size

  -- digests that count as one are mixed alike
  mix_alike : (d e w : ℕ) → d % size ≡ e % size → mix d w ≡ mix e w
  mix_alike d e w same = ap (λ (n : ℕ). (n * factor) % size) (sym (mod-add-mod d size w) ∙ ap (λ (n : ℕ). (n + w) % size) same ∙ mod-add-mod e size w)

  fold_alike : (words : List ℕ) (d e : ℕ) → d % size ≡ e % size → fold mix d words % size ≡ fold mix e words % size
  fold_alike [] d e same = same
  fold_alike (w ∷ words) d e same = ap (λ (n : ℕ). fold mix n words % size) (mix_alike d e w same)

  mix_raised : (d e w : ℕ) → mix (d + e) w % size ≡ (mix d w + e * factor) % size
  mix_raised d e w =
      let moved : (d + e) + w ≡ (d + w) + e = omega arith in
      mod-mod (((d + e) + w) % size * factor) size
      ∙ mul-mod_first ((d + e) + w) factor size
      ∙ ap (λ (n : ℕ). n % size) (ap (λ (n : ℕ). n * factor) moved ∙ add-mul (d + w) e factor)
      ∙ sym (mod-add-mod ((d + w) * factor) size (e * factor))
      ∙ ap (λ (n : ℕ). (n + e * factor) % size) (sym (mul-mod_first (d + w) factor size))

  -- a digest that begins higher
  raised : (words : List ℕ) (d e : ℕ) → fold mix (d + e) words % size ≡ (fold mix d words + e * factor ^ length words) % size
  raised [] d e = ap (λ (n : ℕ). (d + n) % size) (sym (ap (λ (n : ℕ). e * n) (pow-zero factor) ∙ mul-one e))
  raised (w ∷ words) d e =
      fold_alike words (mix (d + e) w) (mix d w + e * factor) (mix_raised d e w)
      ∙ raised words (mix d w) (e * factor)
      ∙ ap (λ (n : ℕ). (fold mix (mix d w) words + n) % size) (mul_assoc e factor (factor ^ length words) ∙ ap (λ (n : ℕ). e * n) (sym (pow-succ' factor (length words))))

  mix_other : (d e v w : ℕ) → w % size ≡ (v + e) % size → mix d w ≡ mix (d + e) v
  mix_other d e v w same =
      let moved : d + (v + e) ≡ (d + e) + v = omega arith in
      ap (λ (n : ℕ). (n * factor) % size) (sym (add-mod-mod d w size) ∙ ap (λ (n : ℕ). (d + n) % size) same ∙ add-mod-mod d (v + e) size ∙ ap (λ (n : ℕ). n % size) moved)

  -- another word at a place
  replaced : (words : List ℕ) (i d w e : ℕ) → i < length words → w % size ≡ (get_or words i 0 + e) % size →
      fold mix d (set words i w) % size ≡ (fold mix d words + e * factor ^ (length words - i)) % size
  replaced [] i d w e within same = absurd (omega (arith, within))
  replaced (v ∷ words) zero d w e within same =
      let whole : suc (length words) ≡ suc (length words) - 0 = omega arith in
      ap (λ (n : ℕ). fold mix n words % size) (mix_other d e v w same) ∙ raised (v ∷ words) d e ∙ ap (λ (n : ℕ). (fold mix (mix d v) words + e * factor ^ n) % size) whole
  replaced (v ∷ words) (suc i) d w e within same =
      let less : suc (length words) - suc i ≡ length words - i = omega arith in
      replaced words i (mix d v) w e (omega (arith, within)) same ∙ ap (λ (n : ℕ). (fold mix (mix d v) words + e * factor ^ n) % size) (sym less)

  -- what is mixed is below the size
  fold_small : (words : List ℕ) (d : ℕ) → d % size ≡ d → fold mix d words % size ≡ fold mix d words
  fold_small [] d small = small
  fold_small (w ∷ words) d small = fold_small words (mix d w) (mod-mod ((d + w) % size * factor) size)

  -- the difference of two words leads from the one to the other
  apart : (old new : ℕ) → old < size → new % size ≡ (old + (new + (size - old)) % size) % size
  apart old new low =
      let there : old + (new + (size - old)) ≡ new + size = omega arith in
      sym (add-mod-mod old (new + (size - old)) size ∙ ap (λ (n : ℕ). n % size) there ∙ add-mod_right new size)

  pub replaced_is : (words : List ℕ) (index old new power digest : ℕ) → slice_get words index ≡ Some old → old < size → power ≡ factor ^ (length words - index) % size → digest ≡ fold mix 0 words →
      (digest + ((new + (size - old)) % size * power) % size) % size ≡ fold mix 0 (set words index new)
  replaced_is words index old new power digest is low is_power is_digest =
      let by : ℕ = (new + (size - old)) % size in
      let whole : ℕ = factor ^ (length words - index) in
      let same : new % size ≡ (get_or words index 0 + by) % size = apart old new low ∙ ap (λ (n : ℕ). (n + by) % size) (sym (get_or_from_slice_get words index old 0 is)) in
      ap (λ (p : ℕ). (digest + (by * p) % size) % size) is_power
      ∙ ap (λ (n : ℕ). (digest + n) % size) (mul-mod_second by whole size)
      ∙ add-mod-mod digest (by * whole) size
      ∙ ap (λ (d : ℕ). (d + by * whole) % size) is_digest
      ∙ sym (replaced words index 0 new by (slice_get_within words index old is) same)
      ∙ fold_small (set words index new) 0 (zero-mod size)
