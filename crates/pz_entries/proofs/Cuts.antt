-- Where a text is cut.
use Rattle.std.proofs.Common.{◌≡◌, ℕ, ◌+◌, ◌<◌, nat_lt, List, [], ◌∷◌, ◌++◌, length, take, drop, get_or, Bool, true, false, cond, Some, None, refl, ap, sym, ◌∙◌, subst}
use Rattle.std.specs.List.{slice_split, position, position_or_len}
use Rattle.std.proofs.lemmas.List.Splits.{slice_split_first}
use Rattle.std.proofs.lemmas.List.{drop_more, take-append-drop}
use Rattle.std.proofs.lemmas.Bool.{ltb-true}
use Rattle.pz_json_text.proofs.KnownCells.{none_chosen, nothing_first}
use Rattle.pz_entries.specs.Reading.{cut_last}

pub chosen : (b : Bool) (n k : ℕ) → cond b (Some n) None ≡ Some k → (b ≡ true) × (n ≡ k)
chosen true n k e = (refl, cc)
chosen false n k e = cc

pub split_found : (p : ℕ → Bool) (xs : List ℕ) (k : ℕ) → position p xs ≡ Some k → (k < length xs) × (slice_split p xs ≡ take k xs ∷ slice_split p (drop (k + 1) xs))
split_found p xs k e =
    let parts = chosen (nat_lt (position_or_len p xs) (length xs)) (position_or_len p xs) k e in
    let within : position_or_len p xs < length xs = ltb-true (position_or_len p xs) (length xs) parts.0 in
    let P : ℕ → Type 0 = λ n. (n < length xs) × (slice_split p xs ≡ take n xs ∷ slice_split p (drop (n + 1) xs)) in
    subst P parts.1 (within, slice_split_first p xs 0 within)

pub cut_there : (xs ys : List ℕ) → cut_last ys ≡ None → cut_last (xs ++ 58 ∷ ys) ≡ Some (xs, ys)
cut_there [] ys e = rw e refl
cut_there (x ∷ xs) ys e = rw (cut_there xs ys e) refl

pub cut_at : (xs : List ℕ) (k : ℕ) → k < length xs → get_or xs k 0 ≡ 58 → cut_last (drop (k + 1) xs) ≡ None → cut_last xs ≡ Some (take k xs, drop (k + 1) xs)
cut_at xs k h e none =
    let parts : take k xs ++ 58 ∷ drop (k + 1) xs ≡ xs = ap (λ x. take k xs ++ x ∷ drop (k + 1) xs) (sym e) ∙ ap (λ l. take k xs ++ l) (sym (drop_more xs k 0 h)) ∙ take-append-drop k xs in
    subst (λ l. cut_last l ≡ Some (take k xs, drop (k + 1) xs)) parts (cut_there (take k xs) (drop (k + 1) xs) none)

none_before : (p : ℕ → Bool) (xs : List ℕ) → nat_lt (position_or_len p xs) (length xs) ≡ false → slice_split p xs ≡ xs ∷ []
none_before p [] e = refl
none_before p (x ∷ xs) e =
    let h = nothing_first (p x) (position_or_len p xs) (length xs) e in
    rw (h.0, none_before p xs h.1) refl

pub split_none : (p : ℕ → Bool) (xs : List ℕ) → position p xs ≡ None → slice_split p xs ≡ xs ∷ []
split_none p xs e = none_before p xs (none_chosen (nat_lt (position_or_len p xs) (length xs)) (position_or_len p xs) e)
