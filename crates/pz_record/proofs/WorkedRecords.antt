-- Worked cases of names as sets.
use Rattle.std.proofs.Common.{◌≡◌, [], ◌∷◌, true, false, refl}
use Rattle.std.specs.Prelude.{codes}
use Rattle.pz_record.specs.CellNames.{with_name, set_of, same_set}

-- names stand in the order of their bytes, a name before what it begins: a mark before a letter, a capital letter before both
by_bytes : set_of (codes "ab" ∷ codes "_" ∷ codes "a" ∷ codes "B" ∷ codes "a" ∷ [])
    ≡ codes "B" ∷ codes "_" ∷ codes "a" ∷ codes "ab" ∷ []
unfolding with_name
by_bytes = refl

-- as a set: the order doesn't count, one name more does
other_order : same_set (codes "a" ∷ codes "b" ∷ []) (codes "b" ∷ codes "a" ∷ []) ≡ true
unfolding same_set
other_order = refl

one_more : same_set (codes "a" ∷ []) (codes "a" ∷ codes "b" ∷ []) ≡ false
unfolding same_set
one_more = refl

fewer_names : same_set (codes "a" ∷ codes "b" ∷ []) (codes "a" ∷ []) ≡ false
unfolding same_set
fewer_names = refl
