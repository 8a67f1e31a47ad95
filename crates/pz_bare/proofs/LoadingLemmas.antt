-- Lemmas on loading a level.
use Rattle.std.proofs.Common.{◌≡◌, inl, inr, ℕ, zero, suc, ◌+◌, ◌<◌, List, [], ◌∷◌, ◌++◌, Option, Some, None, true, false, length, map, take, get_or, arith, ap, sym, ◌∙◌, refl}
use Rattle.std.specs.List.{range_with_len}
use Rattle.std.proofs.lemmas.Bool.{cases_lt}
use Rattle.std.proofs.lemmas.List.{get_or_past}
use Rattle.std.proofs.lemmas.List.FromFn.{map-range_with_len_more, length-map-range_with_len, take-map-range_with_len, get_or-map-range_with_len}
use Rattle.pz_game.specs.declared.level.LevelEntry.TheVariants.{Message}
use Rattle.pz_game.specs.Level.{is_playable, entry_at}
use Rattle.pz_game.specs.declared.game.GameParts.{GameParts}
use Rattle.pz_bare.specs.Loading.{first_of}

first_append : {X : Type 0} (xs ys : List (Option X)) → first_of xs ≡ None → first_of (xs ++ ys) ≡ first_of ys
first_append [] ys e = refl
first_append (None ∷ xs) ys e = first_append xs ys e
first_append {X} (Some x ∷ xs) ys e = let none : Option X = None in let f : none ≡ Some x = sym e in cc

first_at : {X : Type 0} (xs : List (Option X)) (n : ℕ) (x : X) → n < length xs → first_of (take n xs) ≡ None → get_or xs n None ≡ Some x → first_of xs ≡ Some x
first_at [] n x within before here = absurd (omega arith)
first_at (v ∷ xs) zero x within before here = ap (λ o. first_of (o ∷ xs)) here
first_at (None ∷ xs) (suc n) x within before here = first_at xs n x (omega arith) before here
first_at {X} (Some y ∷ xs) (suc n) x within before here = let none : Option X = None in let f : none ≡ Some y = sym before in cc

-- nothing up to n, and nothing at n
pub first_none_more : {X : Type 0} (f : ℕ → Option X) (n : ℕ) → first_of (map f (range_with_len 0 n)) ≡ None → f n ≡ None → first_of (map f (range_with_len 0 (n + 1))) ≡ None
first_none_more f n before here =
    ap first_of (map-range_with_len_more f 0 n n (omega arith)) ∙ first_append (map f (range_with_len 0 n)) (f n ∷ []) before ∙ ap (λ v. first_of (v ∷ [])) here

-- nothing up to n, and something at n
pub first_found : {X : Type 0} (f : ℕ → Option X) (n end : ℕ) (x : X) → first_of (map f (range_with_len 0 n)) ≡ None → n < end → f n ≡ Some x → first_of (map f (range_with_len 0 end)) ≡ Some x
first_found f n end x before within here =
    first_at (map f (range_with_len 0 end)) n x (omega (arith, length-map-range_with_len f 0 end, within)) (ap first_of (take-map-range_with_len f 0 end n (omega (arith, within))) ∙ before) (get_or-map-range_with_len f 0 end n n None within (omega arith) ∙ here)

-- an entry that is played is one of the game
pub playable_within : (game : GameParts) (index : ℕ) → is_playable (entry_at game index) ≡ true → index < length game.levels
playable_within game index playable = elim (cases_lt index (length game.levels)) [
  | inl within ↦ within
  | inr past ↦ absurd (let e : false ≡ true = ap is_playable (sym (get_or_past game.levels index Message past)) ∙ playable in cc)
]
