-- Equal instances have the same hash.
use Rattle.std.proofs.Common.{◌≡◌, ℕ, Bool, true, false, not, ◌&&◌, ◌||◌, List, [], ◌∷◌, filter, fold, refl, ap, sym, ◌∙◌, subst, ⊎_elim}
use Rattle.std.proofs.lemmas.Bool.{and_parts, and_from, or_cases, or_parts, cases_Bool, not_from_true, not_from_false, cond-true, cond-false, false≢true, false_from_ne_true}
use Rattle.std.proofs.lemmas.Nat.{xor_comm}
use Rattle.std.specs.Hash as fed
use Rattle.std.specs.Int.Bits.{bit_xor, xor_assoc}
use Rattle.std.specs.List.{list_any}
use lib.Pointwise.{pointwise}
use Rattle.pz_game.specs.declared.pattern.Item.{Item}
use Rattle.pz_program.specs.declared.instance.Instance.{Instance}
use Rattle.pz_game.specs.Direction.{same_dir}
use Rattle.pz_game.specs.Pattern.{RuleRow}
use Rattle.pz_instances.specs.Equal.{same_item, has_item, within_cell, same_cell, same_row, same_instance}
use Rattle.pz_instances.specs.Hashes.{direction_number, spread_once, item_hash, cell_hash, with_cell, with_row, hash_of}
use Rattle.pz_instances.proofs.EqualLemmas.{same_dir_is, same_item_is}

xor_swap : (a b c : ℕ) → bit_xor a (bit_xor b c) ≡ bit_xor b (bit_xor a c)
xor_swap a b c = sym (xor_assoc a b c) ∙ ap (λ n. bit_xor n c) (xor_comm a b) ∙ xor_assoc b a c

same_item-back : (x y : Item) → same_item x y ≡ true → same_item y x ≡ true
same_item-back x y h = let e : x ≡ y = same_item_is x y h in cc

-- the items of a cell that aren't this one
abbrev without : Item → List Item → List Item
without x items = filter (λ y. not (same_item y x)) items

without-kept : (x y : Item) (ys : List Item) → same_item y x ≡ false → without x (y ∷ ys) ≡ y ∷ without x ys
without-kept x y ys e = cond-true (not (same_item y x)) (y ∷ without x ys) (without x ys) (not_from_false (same_item y x) e)

without-dropped : (x y : Item) (ys : List Item) → same_item y x ≡ true → without x (y ∷ ys) ≡ without x ys
without-dropped x y ys e = cond-false (not (same_item y x)) (y ∷ without x ys) (without x ys) (not_from_true (same_item y x) e)

without-none : (x : Item) (ys : List Item) → has_item ys x ≡ false → without x ys ≡ ys
unfolding has_item
without-none x [] h = refl
without-none x (y ∷ ys) h =
    let r = or_parts (same_item y x) (list_any (λ z. same_item z x) ys) h in
    without-kept x y ys r.0 ∙ ap (λ l. y ∷ l) (without-none x ys r.1)

-- another item is found as before
has_item-without : (x y : Item) (zs : List Item) → same_item y x ≡ false → has_item (without x zs) y ≡ has_item zs y
unfolding has_item
has_item-without x y [] n = refl
has_item-without x y (z ∷ zs) n =
    let more = has_item-without x y zs n in
    ⊎_elim
    (λ e.
    let apart : same_item z y ≡ false = false_from_ne_true (same_item z y) (λ h. false≢true (sym n ∙ subst (λ w. same_item w x ≡ true) (same_item_is z y h) e)) in
    ap (λ l. has_item l y) (without-dropped x z zs e) ∙ more ∙ sym (ap (λ b. b || has_item zs y) apart))
    (λ e. ap (λ l. has_item l y) (without-kept x z zs e) ∙ ap (λ b. same_item z y || b) more)
    (cases_Bool (same_item z x))

-- the hash of a cell is that of one item and that of the others
cell_hash-taken : (x : Item) (ys : List Item) → has_item ys x ≡ true → cell_hash ys ≡ bit_xor (item_hash x) (cell_hash (without x ys))
unfolding has_item
cell_hash-taken x [] h = absurd (false≢true h)
cell_hash-taken x (y ∷ ys) h =
    let others = without x ys in
    ⊎_elim
    (λ e.
    let is : y ≡ x = same_item_is y x e in
    let dropped = without-dropped x y ys e in
    ⊎_elim
    (λ again.
    cond-true (has_item ys y) (cell_hash ys) (bit_xor (item_hash y) (cell_hash ys)) (subst (λ w. has_item ys w ≡ true) (sym is) again)
    ∙ cell_hash-taken x ys again ∙ ap (λ l. bit_xor (item_hash x) (cell_hash l)) (sym dropped))
    (λ never.
    cond-false (has_item ys y) (cell_hash ys) (bit_xor (item_hash y) (cell_hash ys)) (subst (λ w. has_item ys w ≡ false) (sym is) never)
    ∙ ap (λ w. bit_xor (item_hash w) (cell_hash ys)) is
    ∙ ap (λ l. bit_xor (item_hash x) (cell_hash l)) (sym (dropped ∙ without-none x ys never)))
    (cases_Bool (has_item ys x)))
    (λ e.
    let later : has_item ys x ≡ true = sym (ap (λ b. b || has_item ys x) e) ∙ h in
    let kept = without-kept x y ys e in
    let alike : has_item others y ≡ has_item ys y = has_item-without x y ys e in
    ⊎_elim
    (λ again.
    cond-true (has_item ys y) (cell_hash ys) (bit_xor (item_hash y) (cell_hash ys)) again ∙ cell_hash-taken x ys later
    ∙ ap (bit_xor (item_hash x)) (sym (ap cell_hash kept ∙ cond-true (has_item others y) (cell_hash others) (bit_xor (item_hash y) (cell_hash others)) (alike ∙ again))))
    (λ never.
    cond-false (has_item ys y) (cell_hash ys) (bit_xor (item_hash y) (cell_hash ys)) never ∙ ap (bit_xor (item_hash y)) (cell_hash-taken x ys later)
    ∙ xor_swap (item_hash y) (item_hash x) (cell_hash others)
    ∙ ap (bit_xor (item_hash x)) (sym (ap cell_hash kept ∙ cond-false (has_item others y) (cell_hash others) (bit_xor (item_hash y) (cell_hash others)) (alike ∙ never))))
    (cases_Bool (has_item ys y)))
    (cases_Bool (same_item y x))

-- an item that stands there again may be left out
within_cell-shorter : (x : Item) (xs ys : List Item) → has_item xs x ≡ true → within_cell ys (x ∷ xs) ≡ true → within_cell ys xs ≡ true
unfolding within_cell has_item
within_cell-shorter x xs [] again h = refl
within_cell-shorter x xs (y ∷ ys) again h =
    let r = and_parts (has_item (x ∷ xs) y) (within_cell ys (x ∷ xs)) h in
    and_from (has_item xs y) (within_cell ys xs)
    (⊎_elim (λ e. subst (λ w. has_item xs w ≡ true) (same_item_is x y e) again) (λ e. e) (or_cases (same_item x y) (has_item xs y) r.0))
    (within_cell-shorter x xs ys again r.1)

-- cells without x stand within what is left of a cell
within_cell-without : (x : Item) (xs ys : List Item) → has_item xs x ≡ false → within_cell xs ys ≡ true → within_cell xs (without x ys) ≡ true
unfolding within_cell has_item
within_cell-without x [] ys never h = refl
within_cell-without x (y ∷ xs) ys never h =
    let r = or_parts (same_item y x) (has_item xs x) never in
    let s = and_parts (has_item ys y) (within_cell xs ys) h in
    and_from (has_item (without x ys) y) (within_cell xs (without x ys)) (has_item-without x y ys r.0 ∙ s.0) (within_cell-without x xs ys r.1 s.1)

without-within_cell : (x : Item) (xs ys : List Item) → within_cell ys (x ∷ xs) ≡ true → within_cell (without x ys) xs ≡ true
unfolding within_cell has_item
without-within_cell x xs [] h = refl
without-within_cell x xs (y ∷ ys) h =
    let r = and_parts (has_item (x ∷ xs) y) (within_cell ys (x ∷ xs)) h in
    let more = without-within_cell x xs ys r.1 in
    ⊎_elim
    (λ e. ap (λ l. within_cell l xs) (without-dropped x y ys e) ∙ more)
    (λ e.
    let there : has_item xs y ≡ true =
    ⊎_elim (λ same. absurd (false≢true (sym e ∙ same_item-back x y same))) (λ later. later) (or_cases (same_item x y) (has_item xs y) r.0) in
    ap (λ l. within_cell l xs) (without-kept x y ys e) ∙ and_from (has_item xs y) (within_cell (without x ys) xs) there more)
    (cases_Bool (same_item y x))

cell_hash-within : (a b : List Item) → within_cell a b ≡ true → within_cell b a ≡ true → cell_hash a ≡ cell_hash b
unfolding within_cell has_item
cell_hash-within [] [] p q = refl
cell_hash-within [] (y ∷ ys) p q = absurd (false≢true q)
cell_hash-within (x ∷ xs) b p q =
    let r = and_parts (has_item b x) (within_cell xs b) p in
    ⊎_elim
    (λ again.
    cond-true (has_item xs x) (cell_hash xs) (bit_xor (item_hash x) (cell_hash xs)) again
    ∙ cell_hash-within xs b r.1 (within_cell-shorter x xs b again q))
    (λ never.
    cond-false (has_item xs x) (cell_hash xs) (bit_xor (item_hash x) (cell_hash xs)) never
    ∙ ap (bit_xor (item_hash x)) (cell_hash-within xs (without x b) (within_cell-without x xs b never r.1) (without-within_cell x xs b q))
    ∙ sym (cell_hash-taken x b r.0))
    (cases_Bool (has_item xs x))

cell_hash-same : (a b : List Item) → same_cell a b ≡ true → cell_hash a ≡ cell_hash b
unfolding same_cell
cell_hash-same a b h = let r = and_parts (within_cell a b) (within_cell b a) h in cell_hash-within a b r.0 r.1

-- what goes over two lists that agree, with steps that agree
fold-agrees : {X : Type 0} (same : X → X → Bool) (step : ℕ → X → ℕ) → ((hash : ℕ) (x y : X) → same x y ≡ true → step hash x ≡ step hash y)
    → (hash : ℕ) (a b : List X) → pointwise same a b ≡ true → fold step hash a ≡ fold step hash b
fold-agrees same step agree hash [] [] h = refl
fold-agrees same step agree hash [] (y ∷ ys) h = absurd (false≢true h)
fold-agrees same step agree hash (x ∷ xs) [] h = absurd (false≢true h)
fold-agrees same step agree hash (x ∷ xs) (y ∷ ys) h =
    let r = and_parts (same x y) (pointwise same xs ys) h in
    ap (λ n. fold step n xs) (agree hash x y r.0) ∙ fold-agrees same step agree (step hash y) xs ys r.1

with_cell-same : (hash : ℕ) (a b : List Item) → same_cell a b ≡ true → with_cell hash a ≡ with_cell hash b
unfolding with_cell
with_cell-same hash a b h = ap (λ cell. spread_once (bit_xor hash cell)) (cell_hash-same a b h)

with_row-same : (hash : ℕ) (a b : RuleRow) → same_row a b ≡ true → with_row hash a ≡ with_row hash b
unfolding same_row with_row
with_row-same hash a b h = fold-agrees same_cell with_cell with_cell-same hash a.cells b.cells h

hash_of-same : (a b : Instance) → same_instance a b ≡ true → hash_of a ≡ hash_of b
unfolding same_instance hash_of
hash_of-same a b h =
    let r = and_parts (same_dir a.scan b.scan) (pointwise same_row a.left b.left && pointwise same_row a.right b.right) h in
    let s = and_parts (pointwise same_row a.left b.left) (pointwise same_row a.right b.right) r.1 in
    let rows = fold-agrees same_row with_row with_row-same in
    ap (λ d. fold with_row (fold with_row (direction_number d) a.left) a.right) (same_dir_is a.scan b.scan r.0)
    ∙ ap (λ hash. fold with_row hash a.right) (rows (direction_number b.scan) a.left b.left s.0)
    ∙ rows (fold with_row (direction_number b.scan) b.left) a.right b.right s.1

-- `==` looks at its second value first
pub fed-alike : (a b : Instance) → same_instance b a ≡ true → fed.u64 (hash_of a) ≡ fed.u64 (hash_of b)
fed-alike a b h = ap fed.u64 (sym (hash_of-same b a h))
