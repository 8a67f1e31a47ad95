-- Numbers that are read digit by digit.
use Rattle.std.proofs.Common.{◌≡◌, ℕ, ◌+◌, ◌-◌, ◌*◌, ◌<◌, ◌≤◌, leb, List, [], ◌∷◌, length, drop, get_or, Bool, true, false, Option, Some, None, if◌then◌else◌, refl, ap, arith}
use Rattle.std.specs.Str.{all_ascii_digits}
use Rattle.std.specs.Str.Parse.{digits_value_after}
use Rattle.std.specs.Char.{is_ascii_digit, digit_value}
use Rattle.std.proofs.lemmas.Bool.{lt-ltb, le-ltb, and_parts, leb-true}
use Rattle.std.proofs.lemmas.List.{drop_more}
use Rattle.pz_entries.specs.Reading.{number_of, up_to}

-- the number of the digits that are left, behind those that write n
abbrev pub reading_on : ℕ → ℕ → List ℕ → Option ℕ
reading_on most n ds = up_to most (if all_ascii_digits ds then Some (digits_value_after 10 n ds) else None)

pub reading_starts : (most : ℕ) (ds : List ℕ) → 0 < length ds → reading_on most 0 ds ≡ up_to most (number_of ds)
unfolding number_of
reading_starts most ds h = rw (lt-ltb 0 (length ds) h) refl

pub reading_empty : (most : ℕ) (ds : List ℕ) → length ds ≡ 0 → up_to most (number_of ds) ≡ None
unfolding number_of
reading_empty most [] h = refl
reading_empty most (d ∷ ds) h = absurd (omega arith)

digit_is : (c : ℕ) → is_ascii_digit c ≡ true → digit_value c ≡ c - 48
digit_is c h =
    let parts = and_parts (leb 48 c) (leb c 57) h in
    let low : 48 ≤ c = leb-true 48 c parts.0 in
    let high : c ≤ 57 = leb-true c 57 parts.1 in
    rw (le-ltb c 48 low, lt-ltb c 58 (omega arith)) refl

reading_cons : (most n x : ℕ) (ds : List ℕ) → is_ascii_digit x ≡ true → reading_on most n (x ∷ ds) ≡ reading_on most (n * 10 + (x - 48)) ds
reading_cons most n x ds digit = rw digit (ap (λ k. reading_on most (n * 10 + k) ds) (digit_is x digit))

pub reading_more : (most n i : ℕ) (ds : List ℕ) (x : ℕ) → i < length ds → x ≡ get_or ds i 0 → is_ascii_digit x ≡ true
    → reading_on most n (drop i ds) ≡ reading_on most (n * 10 + (x - 48)) (drop (i + 1) ds)
reading_more most n i ds x h e digit = rw (drop_more ds i 0 h, ← e) (reading_cons most n x (drop (i + 1) ds) digit)

grows : (n : ℕ) (ds : List ℕ) → n ≤ digits_value_after 10 n ds
grows n [] = omega arith
grows n (d ∷ ds) = let more : n * 10 + digit_value d ≤ digits_value_after 10 (n * 10 + digit_value d) ds = grows (n * 10 + digit_value d) ds in omega arith

either : (most : ℕ) (b : Bool) (v : ℕ) → most < v → up_to most (if b then Some v else None) ≡ None
either most true v h = rw (lt-ltb most v h) refl
either most false v h = refl

pub reading_big : (most n : ℕ) (ds : List ℕ) → most < n → reading_on most n ds ≡ None
reading_big most n ds h = let g = grows n ds in either most (all_ascii_digits ds) (digits_value_after 10 n ds) (omega arith)
