-- The numbers in bytes, and a number behind them.
use Rattle.std.proofs.Common.{◌≡◌, ℕ, zero, suc, ◌+◌, ◌-◌, ◌*◌, ◌/◌, ◌%◌, ◌<◌, ◌≤◌, List, [], ◌∷◌, ◌++◌, length, get_or, take, Option, Some, None, refl, ap, sym, ◌∙◌, arith}
use Rattle.std.specs.Option.{option_to_list, unwrap_or}
use Rattle.std.specs.Prelude.{slice_get}
use Rattle.std.proofs.lemmas.List.{append-nil, get_or_read}
use Rattle.pz_packed.specs.Paired.{bytes_of_numbers}
use Rattle.pz_packed.proofs.Listing.{take_next}

pub length-paired : (bytes odd : List ℕ) → length (bytes_of_numbers bytes ++ odd) ≡ 2 * length bytes + length odd
length-paired [] odd = omega arith
length-paired (byte ∷ bytes) odd = omega (arith, length-paired bytes odd)

-- one pair more
twice-suc : (k : ℕ) → 2 * suc k ≡ suc (suc (2 * k))
twice-suc k = omega arith

next-twice-suc : (k : ℕ) → 2 * suc k + 1 ≡ suc (suc (2 * k + 1))
next-twice-suc k = omega arith

-- of each byte the first number and the second, and what stands behind them
first_of : (bytes odd : List ℕ) (k : ℕ) → k < length bytes → slice_get (bytes_of_numbers bytes ++ odd) (2 * k) ≡ Some (get_or bytes k 0 % 16)
first_of [] odd k low = absurd (omega arith)
first_of (byte ∷ bytes) odd zero low = refl
first_of (byte ∷ bytes) odd (suc k) low = rw (twice-suc k) (first_of bytes odd k (omega arith))

second_of : (bytes odd : List ℕ) (k : ℕ) → k < length bytes → slice_get (bytes_of_numbers bytes ++ odd) (2 * k + 1) ≡ Some (get_or bytes k 0 / 16)
second_of [] odd k low = absurd (omega arith)
second_of (byte ∷ bytes) odd zero low = refl
second_of (byte ∷ bytes) odd (suc k) low = rw (next-twice-suc k) (second_of bytes odd k (omega arith))

behind : (bytes odd : List ℕ) → slice_get (bytes_of_numbers bytes ++ odd) (2 * length bytes) ≡ slice_get odd 0
behind [] odd = refl
behind (byte ∷ bytes) odd = rw (twice-suc (length bytes)) (behind bytes odd)

-- the same by the place of the number
pub first_at : (bytes odd : List ℕ) (index byte : ℕ) → index / 2 < length bytes → byte ≡ get_or bytes (index / 2) byte → index % 2 ≡ 0 → slice_get (bytes_of_numbers bytes ++ odd) index ≡ Some (byte % 16)
first_at bytes odd index byte low is even =
    let place : index ≡ 2 * (index / 2) = omega arith in
    ap (λ (n : ℕ). slice_get (bytes_of_numbers bytes ++ odd) n) place ∙ first_of bytes odd (index / 2) low ∙ ap (λ (b : ℕ). Some (b % 16)) (sym (get_or_read bytes (index / 2) byte low is 0))

pub second_at : (bytes odd : List ℕ) (index byte : ℕ) → index / 2 < length bytes → byte ≡ get_or bytes (index / 2) byte → (index % 2 ≡ 0 → ⊥) → slice_get (bytes_of_numbers bytes ++ odd) index ≡ Some (byte / 16)
second_at bytes odd index byte low is other =
    let place : index ≡ 2 * (index / 2) + 1 = omega arith in
    ap (λ (n : ℕ). slice_get (bytes_of_numbers bytes ++ odd) n) place ∙ second_of bytes odd (index / 2) low ∙ ap (λ (b : ℕ). Some (b / 16)) (sym (get_or_read bytes (index / 2) byte low is 0))

pub odd_at : (bytes : List ℕ) (odd : Option ℕ) (index : ℕ) → length bytes ≤ index / 2 → index < length (bytes_of_numbers bytes ++ option_to_list odd) → slice_get (bytes_of_numbers bytes ++ option_to_list odd) index ≡ Some (unwrap_or odd 0)
odd_at bytes None index past low = absurd (omega (arith, length-paired bytes []))
odd_at bytes (Some number) index past low =
    let place : index ≡ 2 * length bytes = omega (arith, length-paired bytes (number ∷ [])) in
    ap (λ (n : ℕ). slice_get (bytes_of_numbers bytes ++ number ∷ []) n) place ∙ behind bytes (number ∷ [])

-- a byte more, of the number behind the bytes and another one
pub paired_push : (bytes : List ℕ) (first second : ℕ) → first < 16 → bytes_of_numbers (bytes ++ (first + 16 * second) ∷ []) ++ [] ≡ (bytes_of_numbers bytes ++ first ∷ []) ++ second ∷ []
paired_push [] first second low =
    let rest : (first + 16 * second) % 16 ≡ first = omega arith in
    let quotient : (first + 16 * second) / 16 ≡ second = omega arith in
    rw (rest, quotient) refl
paired_push (byte ∷ bytes) first second low = ap (λ (all : List ℕ). byte % 16 ∷ byte / 16 ∷ all) (paired_push bytes first second low)

-- the first bytes
take-paired : (bytes odd : List ℕ) (k : ℕ) → k ≤ length bytes → take (2 * k) (bytes_of_numbers bytes ++ odd) ≡ bytes_of_numbers (take k bytes)
take-paired bytes odd zero low = refl
take-paired [] odd (suc k) low = absurd (omega arith)
take-paired (byte ∷ bytes) odd (suc k) low = rw (twice-suc k) (ap (λ (all : List ℕ). byte % 16 ∷ byte / 16 ∷ all) (take-paired bytes odd k (omega arith)))

half : (bytes : List ℕ) (odd : Option ℕ) (len : ℕ) → len ≤ length (bytes_of_numbers bytes ++ option_to_list odd) → len / 2 ≤ length bytes
half bytes None len low = omega (arith, length-paired bytes [])
half bytes (Some number) len low = omega (arith, length-paired bytes (number ∷ []))

-- the first numbers, as many as fill bytes, or one more
pub take_even : (bytes : List ℕ) (odd : Option ℕ) (len : ℕ) → len ≤ length (bytes_of_numbers bytes ++ option_to_list odd) → len % 2 ≡ 0 → bytes_of_numbers (take (len / 2) bytes) ++ [] ≡ take len (bytes_of_numbers bytes ++ option_to_list odd)
take_even bytes odd len low even =
    let whole : 2 * (len / 2) ≡ len = omega arith in
    append-nil (bytes_of_numbers (take (len / 2) bytes)) ∙ sym (take-paired bytes (option_to_list odd) (len / 2) (half bytes odd len low)) ∙ ap (λ (n : ℕ). take n (bytes_of_numbers bytes ++ option_to_list odd)) whole

pub take_odd : (bytes : List ℕ) (odd : Option ℕ) (len number : ℕ) → len ≤ length (bytes_of_numbers bytes ++ option_to_list odd) → (len % 2 ≡ 0 → ⊥) → slice_get (bytes_of_numbers bytes ++ option_to_list odd) (len - 1) ≡ Some number →
    bytes_of_numbers (take (len / 2) bytes) ++ number ∷ [] ≡ take len (bytes_of_numbers bytes ++ option_to_list odd)
take_odd bytes odd len number low other there =
    let all = bytes_of_numbers bytes ++ option_to_list odd in
    let last : 2 * (len / 2) ≡ len - 1 = omega arith in
    let whole : len - 1 + 1 ≡ len = omega arith in
    ap (λ (front : List ℕ). front ++ number ∷ []) (sym (take-paired bytes (option_to_list odd) (len / 2) (half bytes odd len low)) ∙ ap (λ (n : ℕ). take n all) last)
    ∙ sym (take_next all (len - 1) number there) ∙ ap (λ (n : ℕ). take n all) whole
