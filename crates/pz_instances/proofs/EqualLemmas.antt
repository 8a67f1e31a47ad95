-- To be the same is an equivalence.
use Rattle.std.proofs.Common.{◌≡◌, ℕ, Bool, true, false, ◌&&◌, ◌==◌, List, [], ◌∷◌, length, refl, ap, ◌∙◌, subst, ⊎_elim}
use Rattle.std.proofs.lemmas.Bool.{and_parts, and_from, or_cases, or_left, or_right, eqb-true, eq-eqb, false≢true}
use Rattle.std.specs.Cmp.{IsEquivalence, IsPartialEquivalence, equiv, on_equiv, back_equiv, partial_equiv_from_equiv}
use Rattle.std.proofs.lemmas.Cmp.{and_equiv, lists_equiv}
use Rattle.std.specs.List.{list_any, list_all, zip}
use lib.Pointwise.{pointwise}
use Rattle.pz_game.specs.declared.direction.Dir.{Dir}
use Rattle.pz_game.specs.declared.direction.Dir.TheVariants.{Up, Down, Left, Right, Action}
use Rattle.pz_game.specs.declared.pattern.Word.{Word}
use Rattle.pz_game.specs.declared.pattern.Word.TheVariants.{Present, Still, Toward, Absent}
use Rattle.pz_game.specs.declared.pattern.Item.{Item}
use Rattle.pz_program.specs.declared.instance.Instance.{Instance}
use Rattle.pz_game.specs.Direction.{same_dir}
use Rattle.pz_instances.specs.Equal.{same_meaning, same_item, has_item, within_cell, same_cell, same_row, same_instance}
use Rattle.pz_game.specs.Pattern.{RuleRow}

pub same_dir_is : (a b : Dir) → same_dir a b ≡ true → a ≡ b
same_dir_is Up Up h = refl
same_dir_is Down Down h = refl
same_dir_is Left Left h = refl
same_dir_is Right Right h = refl
same_dir_is Action Action h = refl
same_dir_is _ _ h = cc

same_meaning_is : (a b : Word) → same_meaning a b ≡ true → a ≡ b
same_meaning_is Present Present h = refl
same_meaning_is Still Still h = refl
same_meaning_is (Toward a) (Toward b) h = ap Toward (same_dir_is a b h)
same_meaning_is Absent Absent h = refl
same_meaning_is _ _ h = cc

pub same_item_is : (a b : Item) → same_item a b ≡ true → a ≡ b
unfolding same_item
same_item_is a b h =
    let p = and_parts (a.object == b.object) ((a.layer == b.layer) && same_meaning a.word b.word) h in
    let q = and_parts (a.layer == b.layer) (same_meaning a.word b.word) p.1 in
    let with_object : ℕ → Item = λ n. record { object = n; layer = a.layer; word = a.word } in
    let with_layer : ℕ → Item = λ n. record { object = b.object; layer = n; word = a.word } in
    let with_word : Word → Item = λ w. record { object = b.object; layer = b.layer; word = w } in
    ap with_object (eqb-true a.object b.object p.0) ∙ ap with_layer (eqb-true a.layer b.layer q.0) ∙ ap with_word (same_meaning_is a.word b.word q.1)

-- an item of a cell that stands in another stands there too
has_item-within : (a b : List Item) (x : Item) → within_cell a b ≡ true → has_item a x ≡ true → has_item b x ≡ true
unfolding within_cell has_item
has_item-within [] b x w h = absurd (false≢true h)
has_item-within (y ∷ ys) b x w h =
    let p = and_parts (has_item b y) (list_all (λ z. has_item b z) ys) w in
    ⊎_elim (λ e. subst (λ z. has_item b z ≡ true) (same_item_is y x e) p.0) (λ e. has_item-within ys b x p.1 e) (or_cases (same_item y x) (list_any (λ z. same_item z x) ys) h)

within_cell-trans : (a b c : List Item) → within_cell a b ≡ true → within_cell b c ≡ true → within_cell a c ≡ true
unfolding within_cell
within_cell-trans [] b c p q = refl
within_cell-trans (x ∷ xs) b c p q =
    let r = and_parts (has_item b x) (list_all (λ z. has_item b z) xs) p in
    and_from (has_item c x) (list_all (λ z. has_item c z) xs) (has_item-within b c x q r.0) (within_cell-trans xs b c r.1 q)

same_cell-trans : (a b c : List Item) → same_cell a b ≡ true → same_cell b c ≡ true → same_cell a c ≡ true
unfolding same_cell
same_cell-trans a b c p q =
    let r = and_parts (within_cell a b) (within_cell b a) p in
    let s = and_parts (within_cell b c) (within_cell c b) q in
    and_from (within_cell a c) (within_cell c a) (within_cell-trans a b c r.0 s.0) (within_cell-trans c b a s.1 r.1)

and-swapped : (a b : Bool) → a && b ≡ b && a
and-swapped true true = refl
and-swapped true false = refl
and-swapped false true = refl
and-swapped false false = refl

same_dir-refl : (d : Dir) → same_dir d d ≡ true
same_dir-refl Up = refl
same_dir-refl Down = refl
same_dir-refl Left = refl
same_dir-refl Right = refl
same_dir-refl Action = refl

same_dir-back : (a b : Dir) → same_dir a b ≡ same_dir b a
same_dir-back Up Up = refl
same_dir-back Down Down = refl
same_dir-back Left Left = refl
same_dir-back Right Right = refl
same_dir-back Action Action = refl
same_dir-back _ _ = refl

same_dir-equiv : IsEquivalence same_dir
same_dir-equiv = equiv (record { symm = same_dir-back; trans = λ a b c p q. let e = same_dir_is a b p in rw e q }) same_dir-refl

same_meaning-refl : (w : Word) → same_meaning w w ≡ true
same_meaning-refl Present = refl
same_meaning-refl Still = refl
same_meaning-refl (Toward d) = same_dir-refl d
same_meaning-refl Absent = refl

same_item-refl : (x : Item) → same_item x x ≡ true
unfolding same_item
same_item-refl x =
    and_from (x.object == x.object) ((x.layer == x.layer) && same_meaning x.word x.word) (eq-eqb x.object x.object refl)
    (and_from (x.layer == x.layer) (same_meaning x.word x.word) (eq-eqb x.layer x.layer refl) (same_meaning-refl x.word))

within_cell-more : (y : Item) (a b : List Item) → within_cell a b ≡ true → within_cell a (y ∷ b) ≡ true
unfolding within_cell has_item
within_cell-more y [] b h = refl
within_cell-more y (x ∷ xs) b h =
    let r = and_parts (has_item b x) (within_cell xs b) h in
    and_from (has_item (y ∷ b) x) (within_cell xs (y ∷ b)) (or_right (same_item y x) (has_item b x) r.0) (within_cell-more y xs b r.1)

within_cell-refl : (a : List Item) → within_cell a a ≡ true
unfolding within_cell has_item
within_cell-refl [] = refl
within_cell-refl (x ∷ xs) =
    and_from (has_item (x ∷ xs) x) (within_cell xs (x ∷ xs)) (or_left (same_item x x) (has_item xs x) (same_item-refl x)) (within_cell-more x xs xs (within_cell-refl xs))

same_cell-equiv : IsEquivalence same_cell
unfolding same_cell
same_cell-equiv = equiv
    (record {
      symm = λ a b. and-swapped (within_cell a b) (within_cell b a);
      trans = same_cell-trans;
    })
    (λ a. and_from (within_cell a a) (within_cell a a) (within_cell-refl a) (within_cell-refl a))

same_row-equiv : IsEquivalence same_row
unfolding same_row
same_row-equiv = on_equiv (λ (row : RuleRow). row.cells) (lists_equiv same_cell-equiv)

pub same_instance-equiv : IsEquivalence same_instance
unfolding same_instance
same_instance-equiv =
    and_equiv (on_equiv (λ (i : Instance). i.scan) same_dir-equiv)
    (and_equiv (on_equiv (λ (i : Instance). i.left) (lists_equiv same_row-equiv)) (on_equiv (λ (i : Instance). i.right) (lists_equiv same_row-equiv)))

pub same_instance-trans : (a b c : Instance) → same_instance a b ≡ true → same_instance b c ≡ true → same_instance a c ≡ true
same_instance-trans a b c p q = same_instance-equiv.congr a b c p ∙ q

-- lists that are as long, pair by pair
pub pointwise-zip : {X : Type 0} (same : X → X → Bool) (a b : List X) → length a ≡ length b → list_all (λ p. same p.0 p.1) (zip a b) ≡ pointwise same a b
pointwise-zip same [] [] e = refl
pointwise-zip same [] (y ∷ ys) e = cc
pointwise-zip same (x ∷ xs) [] e = cc
pointwise-zip same (x ∷ xs) (y ∷ ys) e = ap (λ b. same x y && b) (pointwise-zip same xs ys (cc))

-- the laws of `==`, which looks at its second value first
pub equivalence : IsEquivalence (λ a b. same_instance b a)
equivalence = back_equiv same_instance-equiv

pub partial_equivalence : IsPartialEquivalence (λ a b. same_instance b a)
partial_equivalence = partial_equiv_from_equiv equivalence
