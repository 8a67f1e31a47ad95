-- The numbers of the directions of layers.
use Rattle.std.proofs.Common.{◌≡◌, inl, inr, ℕ, zero, suc, ◌+◌, ◌*◌, ◌/◌, ◌%◌, ◌<◌, ◌≤◌, List, Bool, false, arith, sym, refl, subst}
use Rattle.std.proofs.lemmas.Bool.{cases_lt}
use Rattle.pz_sets.specs.Sets.{member}
use Rattle.pz_game.specs.declared.direction.Dir.{Dir}
use Rattle.pz_game.specs.declared.direction.Dir.TheVariants.{Up, Down, Left, Right, Action}
use Rattle.pz_game.specs.Headings.{dir_bit, flag, heads}

pub dir_bit-low : (dir : Dir) → dir_bit dir < 5
dir_bit-low Up = omega arith
dir_bit-low Down = omega arith
dir_bit-low Left = omega arith
dir_bit-low Right = omega arith
dir_bit-low Action = omega arith

-- each number below 5 is a direction's
dir_of : (n : ℕ) → n < 5 → (dir : Dir) × (dir_bit dir ≡ n)
dir_of zero h = (Up, refl)
dir_of (suc zero) h = (Down, refl)
dir_of (suc (suc zero)) h = (Left, refl)
dir_of (suc (suc (suc zero))) h = (Right, refl)
dir_of (suc (suc (suc (suc zero)))) h = (Action, refl)
dir_of (suc (suc (suc (suc (suc k))))) h = absurd (omega arith)

-- a number in the first 125 bits of a word is a direction of a layer
pub flag_of : (n : ℕ) → n % 128 < 125 → (layer : ℕ) × (dir : Dir) × (flag layer dir ≡ n)
flag_of n h =
    let d = dir_of (n % 128 % 5) (omega arith) in
    let layer = 25 * (n / 128) + n % 128 / 5 in
    let a : layer / 25 ≡ n / 128 = omega arith in
    let b : layer % 25 ≡ n % 128 / 5 = omega arith in
    (layer, d.0, omega (arith, a, b, d.1))

-- what holds of each direction of each layer holds of each number
pub each_number : (P : Bool → Bool → Type 0) (mine theirs : List ℕ) → ((n : ℕ) → 125 ≤ n % 128 → member mine n ≡ false) → ((n : ℕ) → 125 ≤ n % 128 → member theirs n ≡ false) → P false false → ((layer : ℕ) (dir : Dir) → P (heads mine layer dir) (heads theirs layer dir)) → (n : ℕ) → P (member mine n) (member theirs n)
each_number P mine theirs p q none h n = elim (cases_lt (n % 128) 125) [
  | inl low ↦ (let f = flag_of n low in subst (λ (k : ℕ). P (member mine k) (member theirs k)) f.2 (h f.0 f.1))
  | inr high ↦ subst (λ (b : Bool). P b (member theirs n)) (sym (p n high)) (subst (P false) (sym (q n high)) none)
]
