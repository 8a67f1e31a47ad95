-- A list of what each element gives, element by element.
use Rattle.std.proofs.Common.{◌≡◌, ◌<◌, ◌+◌, ℕ, ◌++◌, List, [], ◌∷◌, map, length, take, get_or, ap, sym, ◌∙◌}
use Rattle.std.proofs.lemmas.List.{map-append}
use Rattle.pz_base.proofs.ListLemmas.{take-next}

pub mapped-more : {X Y : Type 0} (f : X → Y) (out : List Y) (xs : List X) (i : ℕ) (x : X) → i < length xs → x ≡ get_or xs i x → out ≡ map f (take i xs) → out ++ f x ∷ [] ≡ map f (take (i + 1) xs)
mapped-more f out xs i x in_range at e =
    ap (λ l. l ++ f x ∷ []) e ∙ (sym (map-append f (take i xs) (x ∷ [])) ∙ ap (map f) (sym (take-next xs i x in_range at)))
