-- Words of cells with one bit more, and what words count in digests.
use Rattle.std.proofs.Common.{◌≡◌, ◌≢◌, ◌⊎◌, inl, inr, ℕ, suc, ◌+◌, ◌-◌, ◌*◌, ◌%◌, ◌^◌, ◌<◌, ◌≤◌, length, set, Some, ap, sym, ◌∙◌, arith, List, Option}
use Rattle.std.specs.Prelude.{slice_get}
use Rattle.std.proofs.Math.Nat.{pow-zero}
use Rattle.std.proofs.lemmas.Grind.{pow_more}
use Rattle.std.proofs.lemmas.Nat.{mul-mod_first}
use Rattle.std.proofs.lemmas.Option.{same_Some}
use Rattle.pz_cells.specs.declared.piece.Piece.{Piece}
use Rattle.pz_sheet.specs.Presence.{is_in}
unfoldable use Rattle.pz_store.specs.Digest.{cell_word, digest_with, power_of}
use Rattle.pz_store.specs.Digest.{IsReplaced, with_bit}
use Rattle.pz_store.specs.declared.digest.TheConstants.{FACTOR}
use Rattle.pz_store.proofs.Listing.{set_elsewhere, set_here}
use Rattle.pz_store.proofs.Mixing.{replaced_is}

pub one_bit_more : (cell : List (Option Piece)) (objects : ℕ) → cell_word (objects + 1) cell ≡ with_bit (cell_word objects cell) (is_in cell objects)
unfolding cell_word
one_bit_more cell objects =
    let more : objects + 1 ≡ suc objects = omega arith in
    ap (λ (n : ℕ). cell_word n cell) more

pub power_none : 1 ≡ power_of 0
unfolding power_of
power_none = ap (λ (n : ℕ). n % 2 ^ 64) (sym (pow-zero FACTOR))

-- the power of a word that stands one place further from the end
pub power_more : (power behind : ℕ) → power ≡ power_of behind → (power * FACTOR) % 2 ^ 64 ≡ power_of (behind + 1)
unfolding power_of
power_more power behind is =
    ap (λ (n : ℕ). (n * FACTOR) % 2 ^ 64) is ∙ mul-mod_first (FACTOR ^ behind) FACTOR (2 ^ 64) ∙ ap (λ (n : ℕ). n % 2 ^ 64) (sym (pow_more FACTOR behind))

-- the powers of the words so far, from the end
abbrev pub PowersFrom : ℕ → ℕ → List ℕ → Type 0
PowersFrom count behind powers = (index power : ℕ) → count ≤ index + behind → slice_get powers index ≡ Some power → power ≡ power_of (count - index)

pub powers_more : (count behind power : ℕ) (powers : List ℕ) → length powers ≡ count → behind < count → power ≡ power_of (behind + 1) → PowersFrom count behind powers → PowersFrom count (behind + 1) (set powers (count - 1 - behind) power)
powers_more count behind power powers long within is each index other low is_there = by (grind arith) where
  by : (index ≡ count - 1 - behind) ⊎ (index ≢ count - 1 - behind) → other ≡ power_of (count - index)
  by (inl at) =
      let it : slice_get (set powers (count - 1 - behind) power) index ≡ Some power = ap (λ (i : ℕ). slice_get (set powers (count - 1 - behind) power) i) at ∙ set_here powers (count - 1 - behind) power (omega (arith, long, within)) in
      let left : behind + 1 ≡ count - index = omega (arith, at, within) in
      same_Some other power (sym is_there ∙ it) ∙ is ∙ ap power_of left
  by (inr apart) = each index other (omega (arith, low, apart, within)) (sym (set_elsewhere powers (count - 1 - behind) index power (λ at. apart (sym at))) ∙ is_there)

-- what a digest becomes with another word
pub replaced_so : (digest old new power : ℕ) → old < 2 ^ 64 → IsReplaced digest old new power ((digest + ((new + (2 ^ 64 - old)) % 2 ^ 64 * power) % 2 ^ 64) % 2 ^ 64)
unfolding digest_with power_of
replaced_so digest old new power low words index is is_power is_digest = replaced_is (2 ^ 64) FACTOR words index old new power digest is low is_power is_digest
