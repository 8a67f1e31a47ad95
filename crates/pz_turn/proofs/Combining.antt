-- Going through all combinations in order.
use Rattle.pz_turn.proofs.Common.{◌≡◌, ℕ, ◌+◌, ◌*◌, ◌<◌, List, [], ◌∷◌, ◌++◌, map, take, length, get_or, fold, refl, ap, ◌∙◌, append_assoc, arith, flat_map, take_more, append-nil, map-append, combinations, common_steps, fold-append}
use Rattle.std.proofs.lemmas.List.Concat.{flat_map-append}
use Rattle.pz_base.specs.Lists.{product_of}

-- a last element put behind each of these
abbrev pub behind : {X : Type 0} → X → List (List X) → List (List X)
behind x cs = map (λ c. c ++ x ∷ []) cs

-- the combinations that end with one of these elements
abbrev pub ending : {X : Type 0} → List (List X) → List X → List (List X)
ending lists xs = flat_map (λ x. behind x (combinations lists)) xs

-- each rest, with each of these elements before it
abbrev pub headed : {X : Type 0} → List X → List (List X) → List (List X)
headed xs rests = flat_map (λ rest. map (λ x. x ∷ rest) xs) rests

map-behind : {X : Type 0} (y : X) (xs : List X) (rest : List X) → map (λ x. x ∷ (rest ++ y ∷ [])) xs ≡ behind y (map (λ x. x ∷ rest) xs)
map-behind y [] rest = refl
map-behind y (x ∷ xs) rest = ap (λ cs. (x ∷ (rest ++ y ∷ [])) ∷ cs) (map-behind y xs rest)

headed-behind : {X : Type 0} (xs : List X) (y : X) (rests : List (List X)) → headed xs (behind y rests) ≡ behind y (headed xs rests)
headed-behind xs y [] = refl
headed-behind xs y (rest ∷ rests) = grind (arith, map-behind y xs rest, headed-behind xs y rests, map-append (λ c. c ++ y ∷ []) (map (λ x. x ∷ rest) xs) (headed xs rests))

headed-ending : {X : Type 0} (xs : List X) (lists : List (List X)) (last : List X) → headed xs (ending lists last) ≡ ending (xs ∷ lists) last
headed-ending xs lists [] = refl
headed-ending xs lists (y ∷ last) = grind (arith, flat_map-append (λ rest. map (λ x. x ∷ rest) xs) (behind y (combinations lists)) (ending lists last), headed-behind xs y (combinations lists), headed-ending xs lists last)

only_last : {X : Type 0} (last : List X) → combinations (last ∷ []) ≡ ending [] last
only_last [] = refl
only_last (y ∷ last) = ap (λ cs. (y ∷ []) ∷ cs) (only_last last)

-- the last list varies slowest
pub combinations-last : {X : Type 0} (lists : List (List X)) (last : List X) → combinations (lists ++ last ∷ []) ≡ ending lists last
combinations-last [] last = only_last last
combinations-last (xs ∷ lists) last = ap (headed xs) (combinations-last lists last) ∙ headed-ending xs lists last

pub length-ending : {X : Type 0} (lists : List (List X)) (last : List X) → length (ending lists last) ≡ length (combinations lists) * length last
length-ending lists [] = omega arith
length-ending lists (y ∷ last) = grind (arith, common_steps, length-ending lists last)

map-behind_before : {X : Type 0} (tail : List X) (y : X) (cs : List (List X)) → map (λ c. c ++ tail) (behind y cs) ≡ map (λ c. c ++ y ∷ tail) cs
map-behind_before tail y [] = refl
map-behind_before tail y (c ∷ cs) = rw (map-behind_before tail y cs, append_assoc c (y ∷ []) tail) refl

-- one more last element
pub fold-ending_more : {X K : Type 0} (f : K → List X → K) (start k : K) (tail : List X) (lists : List (List X)) (xs : List X) (i : ℕ) (x : X) → i < length xs → get_or xs i x ≡ x → k ≡ fold f start (map (λ c. c ++ tail) (ending lists (take i xs))) → fold f start (map (λ c. c ++ tail) (ending lists (take (i + 1) xs))) ≡ fold f k (map (λ c. c ++ x ∷ tail) (combinations lists))
fold-ending_more f start k tail lists xs i x in_range at so_far =
    let here = behind x (combinations lists) in
    let before = ending lists (take i xs) in
    grind (arith, so_far, at, take_more xs i x in_range, flat_map-append (λ y. behind y (combinations lists)) (take i xs) (x ∷ []), append-nil here, map-append (λ c. c ++ tail) before here, fold-append f start (map (λ c. c ++ tail) before) (map (λ c. c ++ tail) here), map-behind_before tail x (combinations lists))

-- as many as the product of the lengths
pub length-combinations : {X : Type 0} (lists : List (List X)) → length (combinations lists) ≡ product_of (map length lists)
length-combinations [] = refl
length-combinations (xs ∷ lists) = length-headed xs (combinations lists) ∙ ap (λ n. length xs * n) (length-combinations lists) where
  length-headed : {X : Type 0} (xs : List X) (rests : List (List X)) → length (headed xs rests) ≡ length xs * length rests
  length-headed xs [] = omega arith
  length-headed xs (rest ∷ rests) = grind (arith, common_steps, length-headed xs rests)
