-- Going through a product in order.
use Rattle.std.proofs.Common.{◌≡◌, ℕ, ◌+◌, ◌<◌, List, [], ◌∷◌, ◌++◌, map, fold, take, length, get_or, refl, ap, sym, ◌∙◌, append_assoc}
use Rattle.std.specs.List.{flat_map}
use Rattle.std.proofs.lemmas.List.{take_more, append-nil, map-append}
use Rattle.std.proofs.lemmas.List.Concat.{flat_map-append}
use Rattle.std.proofs.lemmas.Grind.{fold-append}
use Rattle.pz_base.specs.Lists.{product}

-- the lists of a product that begin with one of these elements
abbrev pub headed : {X : Type 0} → List (List X) → List X → List (List X)
headed others xs = flat_map (λ x. map (λ rest. x ∷ rest) (product others)) xs

-- a list put before each of these that begin with x
pub map-before_head : {X : Type 0} (p : List X) (x : X) (rests : List (List X)) → map (λ rest. p ++ rest) (map (λ rest. x ∷ rest) rests) ≡ map (λ rest. (p ++ x ∷ []) ++ rest) rests
map-before_head p x [] = refl
map-before_head p x (r ∷ rests) = rw (map-before_head p x rests, append_assoc p (x ∷ []) r) refl

-- one more first element
pub fold-headed_more : {X K : Type 0} (F : K → List X → K) (start k : K) (p : List X) (others : List (List X)) (xs : List X) (i : ℕ) (x : X) → i < length xs → x ≡ get_or xs i x → k ≡ fold F start (map (λ rest. p ++ rest) (headed others (take i xs))) → fold F start (map (λ rest. p ++ rest) (headed others (take (i + 1) xs))) ≡ fold F k (map (λ rest. (p ++ x ∷ []) ++ rest) (product others))
fold-headed_more {X} {K} F start k p others xs i x in_range at so_far =
    let before : List X → List X = λ rest. p ++ rest in
    let here = map (λ rest. x ∷ rest) (product others) in
    let more : take (i + 1) xs ≡ take i xs ++ x ∷ [] = take_more xs i x in_range ∙ ap (λ y. take i xs ++ y ∷ []) (sym at) in
    let split : headed others (take (i + 1) xs) ≡ headed others (take i xs) ++ here =
    ap (headed others) more ∙ flat_map-append _ (take i xs) (x ∷ []) ∙ ap (λ l. headed others (take i xs) ++ l) (append-nil here) in
    ap (λ l. fold F start (map before l)) split ∙ ap (fold F start) (map-append before (headed others (take i xs)) here) ∙ fold-append F start (map before (headed others (take i xs))) (map before here) ∙ ap (λ j. fold F j (map before here)) (sym so_far) ∙ ap (fold F k) (map-before_head p x (product others))
