-- Rows of numbers that lie one behind another.
use Rattle.std.proofs.Common.{◌≡◌, ℕ, zero, suc, ◌+◌, ◌*◌, ◌<◌, ◌≤◌, List, [], ◌∷◌, ◌++◌, length, length-drop, Some, refl, ap, ◌∙◌, subst, arith, take, drop}
use Rattle.std.specs.Prelude.{slice_get}
use Rattle.std.proofs.lemmas.List.{drop-drop, drop-append-le, take-append-le, drop-take, length-take-le}
use Rattle.std.proofs.lemmas.Nat.{mul-le}
use Rattle.std.proofs.lemmas.Option.{same_Some}
use Rattle.pz_store.specs.Rows.{rows_in}

pub rows_count : (long count : ℕ) (numbers : List ℕ) → length (rows_in long count numbers) ≡ count
rows_count long zero numbers = refl
rows_count long (suc count) numbers = ap suc (rows_count long count (drop long numbers))

-- the row at a place
pub row_at : (long count place : ℕ) (numbers : List ℕ) → place < count → slice_get (rows_in long count numbers) place ≡ Some (take long (drop (place * long) numbers))
row_at long zero place numbers within = absurd (omega (arith, within))
row_at long (suc count) zero numbers within =
    let none : 0 ≡ 0 * long = omega arith in
    ap (λ (n : ℕ). Some (take long (drop n numbers))) none
row_at long (suc count) (suc place) numbers within =
    let far : long + place * long ≡ suc place * long = omega arith in
    row_at long count place (drop long numbers) (omega (arith, within)) ∙ ap (λ (l : List ℕ). Some (take long l)) (drop-drop (place * long) long numbers ∙ ap (λ (n : ℕ). drop n numbers) far)

-- the numbers of a row at a place lie within all
pub row_within : (long count place : ℕ) → place < count → place * long + long ≤ count * long
row_within long count place within =
    let far : (place + 1) * long ≡ place * long + long = omega arith in
    omega (arith, far, mul-le (place + 1) long count long (omega (arith, within)) (omega arith))

-- one row more
pub rows_more : (long count : ℕ) (numbers row : List ℕ) → length numbers ≡ count * long → length row ≡ long → rows_in long (suc count) (numbers ++ row) ≡ rows_in long count numbers ++ row ∷ []
rows_more long zero [] row none fits = ap (λ (l : List ℕ). l ∷ []) (subst (λ (n : ℕ). take n row ≡ row) fits (take_all row)) where
  take_all : (l : List ℕ) → take (length l) l ≡ l
  take_all [] = refl
  take_all (x ∷ l) = ap (λ (m : List ℕ). x ∷ m) (take_all l)
rows_more long zero (x ∷ numbers) row none fits = absurd (omega (arith, none))
rows_more long (suc count) numbers row all fits =
    let far : suc count * long ≡ long + count * long = omega arith in
    let left : length (drop long numbers) ≡ count * long = omega (arith, length-drop long numbers, all, far) in
    let within : long ≤ length numbers = omega (arith, all, far) in
    ap (λ (l : List ℕ). l ∷ rows_in long (suc count) (drop long (numbers ++ row))) (take-append-le long numbers row within)
    ∙ ap (λ (l : List ℕ). take long numbers ∷ rows_in long (suc count) l) (drop-append-le long numbers row within)
    ∙ ap (λ (l : List (List ℕ)). take long numbers ∷ l) (rows_more long count (drop long numbers) row left fits)

-- the last row less
pub rows_less : (long count : ℕ) (numbers : List ℕ) → rows_in long count (take (count * long) numbers) ≡ take count (rows_in long (suc count) numbers)
rows_less long zero numbers = refl
rows_less long (suc count) numbers =
    let far : suc count * long ≡ long + count * long = omega arith in
    ap (λ (n : ℕ). rows_in long (suc count) (take n numbers)) far
    ∙ ap (λ (l : List ℕ). l ∷ rows_in long count (drop long (take (long + count * long) numbers))) (take_of long (long + count * long) numbers (omega arith))
    ∙ ap (λ (l : List ℕ). take long numbers ∷ rows_in long count l) (drop-take long (count * long) numbers)
    ∙ ap (λ (l : List (List ℕ)). take long numbers ∷ l) (rows_less long count (drop long numbers)) where
      take_of : (n far : ℕ) (l : List ℕ) → n ≤ far → take n (take far l) ≡ take n l
      take_of zero far l low = refl
      take_of (suc n) zero l low = absurd (omega (arith, low))
      take_of (suc n) (suc far) [] low = refl
      take_of (suc n) (suc far) (x ∷ l) low = ap (λ (k : List ℕ). x ∷ k) (take_of n far l (omega (arith, low)))

-- a number of the row at a place
pub number_at : (long place index : ℕ) (numbers : List ℕ) → index < long → slice_get (take long (drop (place * long) numbers)) index ≡ slice_get numbers (place * long + index)
number_at long place index numbers within = of_take long index (drop (place * long) numbers) within ∙ of_drop (place * long) index (place * long + index) numbers refl where
  of_take : (n i : ℕ) (l : List ℕ) → i < n → slice_get (take n l) i ≡ slice_get l i
  of_take zero i l low = absurd (omega (arith, low))
  of_take (suc n) i [] low = refl
  of_take (suc n) zero (x ∷ l) low = refl
  of_take (suc n) (suc i) (x ∷ l) low = of_take n i l (omega (arith, low))

  of_drop : (n i at : ℕ) (l : List ℕ) → n + i ≡ at → slice_get (drop n l) i ≡ slice_get l at
  of_drop zero i at l is = ap (slice_get l) (omega (arith, is))
  of_drop (suc n) i zero l is = absurd (omega (arith, is))
  of_drop (suc n) i (suc at) [] is = refl
  of_drop (suc n) i (suc at) (x ∷ l) is = of_drop n i at l (omega (arith, is))

-- the row at a place is as long as all
pub row_long : (long count place : ℕ) (numbers : List ℕ) → place < count → length numbers ≡ count * long → length (take long (drop (place * long) numbers)) ≡ long
row_long long count place numbers within all =
    length-take-le long (drop (place * long) numbers) (omega (arith, length-drop (place * long) numbers, all, row_within long count place within))

-- lists of one length with the same elements
pub same_elements : (a b : List ℕ) → length a ≡ length b → ((index : ℕ) → index < length a → slice_get a index ≡ slice_get b index) → a ≡ b
same_elements [] [] long same = refl
same_elements [] (y ∷ b) long same = absurd (omega (arith, long))
same_elements (x ∷ a) [] long same = absurd (omega (arith, long))
same_elements (x ∷ a) (y ∷ b) long same =
    let first : x ≡ y = same_Some x y (same 0 (omega arith)) in
    let more : a ≡ b = same_elements a b (omega (arith, long)) (λ index within. same (suc index) (omega (arith, within))) in
    ap (λ (n : ℕ). n ∷ a) first ∙ ap (λ (l : List ℕ). y ∷ l) more
