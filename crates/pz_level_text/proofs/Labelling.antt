-- The labels of sets of objects.
use Rattle.pz_level_text.proofs.Common.{common_steps, ◌≡◌, ℕ, suc, ◌+◌, ◌<◌, ◌≤◌, Bool, List, [], ◌∷◌, length, take, refl, ap, arith, All, slice_index, get_or-take, length-take, member, Grid, stands, chosen_from, standing_names, set_of, text_of_names, set_text, IsLabelOf, IsLabelOfWord}
use Rattle.pz_level_text.specs.declared.labelled_set.LabelledSet.{LabelledSet}

-- tests that agree choose the same names
pub chosen_same : (f g : ℕ → Bool) → ((n : ℕ) → f n ≡ g n) → (k : ℕ) (names : List (List ℕ)) → chosen_from f k names ≡ chosen_from g k names
chosen_same f g e k names = grind (arith, common_steps)

-- tests that agree on the numbers of the names choose the same names
chosen_alike : (f g : ℕ → Bool) (end : ℕ) → ((n : ℕ) → n < end → f n ≡ g n) → (k : ℕ) (names : List (List ℕ)) → k + length names ≤ end → chosen_from f k names ≡ chosen_from g k names
chosen_alike f g end e k [] h = refl
chosen_alike f g end e k (name ∷ names) h = rw (e k (omega (arith, h)), chosen_alike f g end e (suc k) names (omega (arith, h))) refl

-- sets with the same first word have the same text, where all objects are in that word
pub label_of_word : (names texts : List (List ℕ)) (known : List ℕ) (word label : ℕ) → length names ≤ 128 → slice_index known 0 ≡ word → IsLabelOf names texts known label → IsLabelOfWord names texts word label
label_of_word names texts known word label few first is objects same = grind (arith, common_steps, chosen_alike)

-- the names of a set of objects are those of the position where they stand
pub named_at : (names : List (List ℕ)) (objects : List ℕ) (grid : Grid) (x y : ℕ) → ((object : ℕ) → member objects object ≡ stands grid x y object)
    → chosen_from (member objects) 0 names ≡ standing_names names grid (x, y)
unfolding standing_names
named_at names objects grid x y same = chosen_same (member objects) (stands grid x y) same 0 names

-- the text of the objects that stand at a position
pub set_standing : (names : List (List ℕ)) (grid : Grid) (x y : ℕ) (objects : List ℕ) → ((object : ℕ) → member objects object ≡ stands grid x y object) → set_text names objects ≡ text_of_names (set_of (standing_names names grid (x, y)))
set_standing names grid x y objects same = ap (λ (l : List (List ℕ)). text_of_names (set_of l)) (named_at names objects grid x y same)

pub labels_kept : (names texts more : List (List ℕ)) (known : List LabelledSet) → take (length texts) more ≡ texts → All (λ k. IsLabelOf names texts k.objects k.label) known → All (λ k. IsLabelOf names more k.objects k.label) known
labels_kept names texts more known kept each k d within = grind (arith, common_steps, get_or-take, length-take)
