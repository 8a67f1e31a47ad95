-- The positions at which the objects that are noted differ.
use Rattle.std.proofs.Common.{◌≡◌, inl, inr, ℕ, ◌+◌, ◌-◌, ◌*◌, ◌/◌, ◌%◌, ◌<◌, ◌≤◌, Bool, true, false, not, ◌||◌, cond, length, get_or, arith}
use Rattle.std.specs.Prelude.{◌↔◌}
use Rattle.std.proofs.lemmas.Bool.{cases_eq, cases_lt}
use Rattle.std.proofs.lemmas.List.{get_or_default}
use Rattle.std.proofs.lemmas.Nat.{div-mul-add, mod-mul-add}
use Rattle.pz_sets.specs.Sets.{in_word}
use Rattle.pz_planes.specs.Planes.{LineSets, stands_in, AreSameAt, AreSameBetween}

-- the word of an object and a line has the positions at which the object is noted
pub word_tells : (sets : LineSets) (object line number word at : ℕ) → at < 128 → number ≡ object * sets.count + line → number < length sets.words → word ≡ get_or sets.words number word → in_word word at ≡ stands_in sets object line at
word_tells sets object line number word at low is within read = grind (arith, get_or_default sets.words number word 0 within, div-mul-add (object * sets.count + line) 128 at low, mod-mul-add (object * sets.count + line) 128 at low)

pub xor_no : (x y z : Bool) → z ≡ cond x (not y) y → (z ≡ false) ↔ (x ≡ y)
xor_no x y z e = grind arith

-- of the objects below a number, the same are noted at a position of a line
abbrev pub AreSameBelow : ℕ → LineSets → LineSets → ℕ → ℕ → Type 0
AreSameBelow end sets other line at = (object : ℕ) → object < end → stands_in sets object line at ≡ stands_in other object line at

-- one object more
pub same_more : (object : ℕ) (sets other : LineSets) (line at : ℕ) (before here new : Bool) → (before ≡ false) ↔ AreSameBelow object sets other line at → (here ≡ false) ↔ (stands_in sets object line at ≡ stands_in other object line at) → new ≡ (before || here)
    → (new ≡ false) ↔ AreSameBelow (object + 1) sets other line at
same_more object sets other line at before here new rest one is = (λ no k low. grind (arith, cases_eq k object, rest.0, one.0), λ same. grind (arith, rest.1 (λ k low. same k (omega (arith, low))), one.1 (same object (omega arith))))

-- ---- the positions of one line after another, each of this many
module _ (sets other : LineSets) (long line places : ℕ) (short : long ≤ 128) (tells : (at : ℕ) → at < 128 → (in_word places at ≡ false) ↔ AreSameAt sets other line at) where
  same_at : (number at : ℕ) → number ≡ line * long + at → at < long → AreSameAt sets other line at → AreSameAt sets other (number / long) (number % long)
  same_at number at is low same object known = grind (arith, same object known, div-mul-add line long at low, mod-mul-add line long at low)

  -- the word tells of the line up to a position
  pub same_to : (from start end : ℕ) → start ≡ from - line * long → end ≤ long → ((at : ℕ) → start ≤ at → at < end → in_word places at ≡ false) → AreSameBetween sets other long from (line * long) → AreSameBetween sets other long from (line * long + end)
  same_to from start end is low none before number above below = elim (cases_lt number (line * long)) [
    | inl early ↦ before number above early
    | inr late ↦ same_at number (number - line * long) (omega (arith, late)) (omega arith) ((tells (number - line * long) (omega (arith, short))).0 (none (number - line * long) (omega (arith, above, is)) (omega (arith, below, late))))
  ]

  -- and differs there
  pub differ_there : (at : ℕ) → at < long → in_word places at ≡ true → AreSameAt sets other ((line * long + at) / long) ((line * long + at) % long) → ⊥
  differ_there at low there same = grind (arith, there, (tells at (omega (arith, low, short))).1 (λ object known. grind (arith, same object known, div-mul-add line long at low, mod-mul-add line long at low)))
