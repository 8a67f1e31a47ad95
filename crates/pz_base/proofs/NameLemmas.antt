-- A set of texts in order, and the names that it holds.
use Rattle.std.proofs.Common.{◌≡◌, ℕ, ◌+◌, Bool, not, ◌||◌, List, [], ◌∷◌, length, map, refl, ap, sym, ◌∙◌}
use Rattle.std.specs.List.{list_any, position, position_or_len}
use Rattle.std.specs.Prelude.{cond, nat_lt, Some, None}
use Rattle.std.proofs.lemmas.List.{length-map}
use Rattle.std.specs.Prelude.{String}
use Rattle.std.specs.String.{string_bytes}
use Rattle.pz_base.specs.NameSet.{is_name_of}
use Rattle.std.specs.Str.{bytes_eq}

pub is_name_of-texts : {Z : Type 0} (ks : List (String Z)) (name : List ℕ)
    → list_any (λ k. bytes_eq name (string_bytes k)) ks ≡ is_name_of (map string_bytes ks) name
is_name_of-texts [] name = refl
is_name_of-texts (x ∷ ks) name = ap (λ b. bytes_eq name (string_bytes x) || b) (is_name_of-texts ks name)

-- the place of a key by its text
pub position_or_len-map : {A B : Type 0} (f : A → B) (p : B → Bool) (xs : List A) → position_or_len (λ x. p (f x)) xs ≡ position_or_len p (map f xs)
position_or_len-map f p [] = refl
position_or_len-map f p (x ∷ xs) = ap (λ n. cond (not (p (f x))) (1 + n) 0) (position_or_len-map f p xs)

pub position-map : {A B : Type 0} (f : A → B) (p : B → Bool) (xs : List A) → position (λ x. p (f x)) xs ≡ position p (map f xs)
position-map f p xs =
    ap (λ n. cond (nat_lt n (length xs)) (Some n) None) (position_or_len-map f p xs)
    ∙ ap (λ n. cond (nat_lt (position_or_len p (map f xs)) n) (Some (position_or_len p (map f xs))) None) (sym (length-map xs f))
