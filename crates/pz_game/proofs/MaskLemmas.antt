-- The sets of a cell with one item more.
use Rattle.std.proofs.lemmas.List.{take_more}
use Rattle.std.proofs.Common.{◌≡◌, ◌≢◌, inl, inr, ℕ, ◌+◌, ◌<◌, length, take, get_or, List, [], ◌∷◌, ◌++◌, Option, Some, None, Bool, true, false, cond, not, ◌&&◌, ◌||◌, ap, sym, ◌∙◌, refl, subst, nat_eq, eq-eqb}
use Rattle.std.specs.Prelude.{is_some}
use Rattle.std.specs.List.{list_any}
use Rattle.std.proofs.lemmas.Bool.{cases_eq, ne_eqb, eqb-true, and_parts, or_cases, or_left, or_right, and_from}
use Rattle.pz_sets.specs.Sets.{member}
use Rattle.pz_game.specs.declared.direction.Dir.{Dir}
use Rattle.pz_game.specs.declared.pattern.Word.{Word}
use Rattle.pz_game.specs.declared.pattern.Word.TheVariants.{Present, Still, Toward, Absent}
use Rattle.pz_game.specs.declared.pattern.Item.{Item}
use Rattle.pz_game.specs.Items.{names, tells_movement, is_on, places_on, placed_on}
use Rattle.pz_game.specs.Headings.{heads, is_toward}
use Rattle.pz_game.specs.declared.masks.Masks.{Masks}
use Rattle.pz_game.specs.Masks.{toward, is_still, settles, begins, is_first, IsAdded, AreMasksOf}

-- ---- a cell with one item more
pub any_more : {X : Type 0} (p : X → Bool) (xs : List X) (x : X) → list_any p (xs ++ x ∷ []) ≡ (p x || list_any p xs)
any_more p [] x = refl
any_more p (y ∷ ys) x = ap (λ b. p y || b) (any_more p ys x) ∙ swap (p y) (p x) (list_any p ys) where
  swap : (a b d : Bool) → (a || (b || d)) ≡ (b || (a || d))
  swap true true d = refl
  swap true false d = refl
  swap false true d = refl
  swap false false d = refl

pub placed_more : (layer : ℕ) (xs : List Item) (item : Item) → placed_on layer (xs ++ item ∷ []) ≡ cond (is_some (placed_on layer xs)) (placed_on layer xs) (cond (places_on layer item) (Some item) None)
placed_more layer [] item = refl
placed_more layer (x ∷ xs) item = by_test (placed_more layer xs item) (places_on layer x) where
  by_test : placed_on layer (xs ++ item ∷ []) ≡ cond (is_some (placed_on layer xs)) (placed_on layer xs) (cond (places_on layer item) (Some item) None) → (b : Bool) → cond b (Some x) (placed_on layer (xs ++ item ∷ [])) ≡ cond (is_some (cond b (Some x) (placed_on layer xs))) (cond b (Some x) (placed_on layer xs)) (cond (places_on layer item) (Some item) None)
  by_test rest true = refl
  by_test rest false = rest

eq_sym : (a b : ℕ) → nat_eq a b ≡ nat_eq b a
eq_sym a b = elim (cases_eq a b) [ inl e ↦ eq-eqb a b e ∙ sym (eq-eqb b a (sym e)) | inr e ↦ ne_eqb a b e ∙ sym (ne_eqb b a (λ f. e (sym f))) ]

-- a word that is there in the old cell is there in the new one
listed : {X : Type 0} (p : X → Bool) (xs : List X) (x : X) (new old test : Bool) → new ≡ (test || old) → test ≡ p x → old ≡ list_any p xs → new ≡ list_any p (xs ++ x ∷ [])
listed p xs x new old test e f g = e ∙ ap (λ b. b || old) f ∙ ap (λ b. p x || b) g ∙ sym (any_more p xs x)

-- what is first on its layer: nothing of the items before is placed there
pub placed_still : (layer : ℕ) (xs : List Item) (item found : Item) → placed_on layer xs ≡ Some found → placed_on layer (xs ++ item ∷ []) ≡ Some found
placed_still layer xs item found e = placed_more layer xs item ∙ ap (λ (o : Option Item). cond (is_some o) o (cond (places_on layer item) (Some item) None)) e

pub placed_new : (layer : ℕ) (xs : List Item) (item : Item) → placed_on layer xs ≡ None → placed_on layer (xs ++ item ∷ []) ≡ cond (places_on layer item) (Some item) None
placed_new layer xs item e = placed_more layer xs item ∙ ap (λ (o : Option Item). cond (is_some o) o (cond (places_on layer item) (Some item) None)) e

none_from : (o : Option Item) → is_some o ≡ false → o ≡ None
none_from None e = refl
none_from (Some item) e = cc

-- a test of what is placed, kept up to date by what is first
placed_test : (f : Option Item → Bool) → f None ≡ false → (xs : List Item) (item : Item) (layer : ℕ) (new old first : Bool) → first ≡ (names item.word && not (is_some (placed_on item.layer xs))) → new ≡ (((first && nat_eq layer item.layer) && f (Some item)) || old) → old ≡ f (placed_on layer xs) → new ≡ f (placed_on layer (xs ++ item ∷ []))
placed_test f none xs item layer new old first is e g = by_found (placed_on layer xs) refl where
  step : (b : Bool) → first ≡ b → (same : Bool) → nat_eq layer item.layer ≡ same → new ≡ (((b && same) && f (Some item)) || old)
  step b p same q = e ∙ ap (λ x. ((x && nat_eq layer item.layer) && f (Some item)) || old) p ∙ ap (λ x. ((b && x) && f (Some item)) || old) q

  not_first : (found : Item) → placed_on layer xs ≡ Some found → layer ≡ item.layer → first ≡ false
  not_first found p same = is ∙ ap (λ (o : Option Item). names item.word && not (is_some o)) (ap (λ (k : ℕ). placed_on k xs) (sym same) ∙ p) ∙ and_no (names item.word) where
    and_no : (x : Bool) → (x && false) ≡ false
    and_no true = refl
    and_no false = refl

  no_same : (b : Bool) → ((b && false) && f (Some item)) ≡ false
  no_same true = refl
  no_same false = refl

  kept : (found : Item) → placed_on layer xs ≡ Some found → new ≡ old
  kept found p = elim (cases_eq layer item.layer) [
    | inl same ↦ step false (not_first found p same) true (eq-eqb layer item.layer same)
    | inr apart ↦ step first refl false (ne_eqb layer item.layer apart) ∙ ap (λ b. b || old) (no_same first)
  ]

  off : placed_on layer xs ≡ None → layer ≢ item.layer → new ≡ f (placed_on layer (xs ++ item ∷ []))
  off p apart = step first refl false (ne_eqb layer item.layer apart) ∙ ap (λ b. b || old) (no_same first) ∙ g ∙ ap f p ∙ sym (ap f (placed_new layer xs item p ∙ ap (λ b. cond b (Some item) None) (no_place (names item.word)))) where
    no_place : (b : Bool) → (b && nat_eq item.layer layer) ≡ false
    no_place true = ne_eqb item.layer layer (λ h. apart (sym h))
    no_place false = refl

  on : placed_on layer xs ≡ None → layer ≡ item.layer → (named : Bool) → names item.word ≡ named → new ≡ f (placed_on layer (xs ++ item ∷ []))
  on p same true n =
      let free : placed_on item.layer xs ≡ None = ap (λ (k : ℕ). placed_on k xs) (sym same) ∙ p in
      let yes : first ≡ true = is ∙ ap (λ b. b && not (is_some (placed_on item.layer xs))) n ∙ ap (λ (o : Option Item). not (is_some o)) free in
      let there : placed_on layer (xs ++ item ∷ []) ≡ Some item = placed_new layer xs item p ∙ ap (λ b. cond (b && nat_eq item.layer layer) (Some item) None) n ∙ ap (λ b. cond b (Some item) None) (eq-eqb item.layer layer (sym same)) in
      step true yes true (eq-eqb layer item.layer same) ∙ ap (λ b. f (Some item) || b) (g ∙ ap f p ∙ none) ∙ or_none (f (Some item)) ∙ sym (ap f there) where
        or_none : (b : Bool) → (b || false) ≡ b
        or_none true = refl
        or_none false = refl
  on p same false n =
      let no : first ≡ false = is ∙ ap (λ b. b && not (is_some (placed_on item.layer xs))) n in
      let there : placed_on layer (xs ++ item ∷ []) ≡ None = placed_new layer xs item p ∙ ap (λ b. cond (b && nat_eq item.layer layer) (Some item) None) n in
      step false no (nat_eq layer item.layer) refl ∙ g ∙ ap f (p ∙ sym there)

  by_found : (o : Option Item) → placed_on layer xs ≡ o → new ≡ f (placed_on layer (xs ++ item ∷ []))
  by_found (Some found) p = kept found p ∙ g ∙ ap f (p ∙ sym (placed_still layer xs item found p))
  by_found None p = elim (cases_eq layer item.layer) [ inl same ↦ on p same (names item.word) refl | inr apart ↦ off p apart ]

-- ---- the masks of a cell with one item more
and_swap : (a b : Bool) → (a && b) ≡ (b && a)
and_swap true true = refl
and_swap true false = refl
and_swap false true = refl
and_swap false false = refl

and_yes : (a : Bool) → (a && true) ≡ a
and_yes true = refl
and_yes false = refl

swap_last : (a b d : Bool) → ((a && b) && d) ≡ ((a && d) && b)
swap_last true b d = and_swap b d
swap_last false b d = refl

-- a direction under a test
toward_test : (test : Bool) (word : Word) (dir : Dir) → is_toward (toward test word) dir ≡ (test && is_toward (toward true word) dir)
toward_test true word dir = refl
toward_test false (Toward heading) dir = refl
toward_test false Present dir = refl
toward_test false Still dir = refl
toward_test false Absent dir = refl

shift : (a b d : Bool) → (a && (b && d)) ≡ ((b && a) && d)
shift true b d = ap (λ x. x && d) (sym (and_yes b))
shift false true d = refl
shift false false d = refl

pub masks_more : (xs : List Item) (item : Item) (old new : Masks) → AreMasksOf xs old → IsAdded item old new → AreMasksOf (xs ++ item ∷ []) new
masks_more xs item old new m a = record {
  present = λ o. listed (λ (i : Item). names i.word && nat_eq i.object o) xs item (member new.present o) (member old.present o) (names item.word && nat_eq o item.object) (a.present o) (ap (λ b. names item.word && b) (eq_sym o item.object)) (m.present o);
  absent = λ o. listed (λ (i : Item). not (names i.word) && nat_eq i.object o) xs item (member new.absent o) (member old.absent o) (not (names item.word) && nat_eq o item.object) (a.absent o) (ap (λ b. not (names item.word) && b) (eq_sym o item.object)) (m.absent o);
  required = λ l d. listed (λ (i : Item). is_toward (toward true i.word) d && is_on l i) xs item (heads new.required l d) (heads old.required l d) (nat_eq l item.layer && is_toward (toward true item.word) d) (a.required l d) (and_swap (nat_eq l item.layer) (is_toward (toward true item.word) d) ∙ ap (λ b. is_toward (toward true item.word) d && b) (eq_sym l item.layer)) (m.required l d);
  forbidden = λ l d. listed (λ (i : Item). is_still i.word && is_on l i) xs item (heads new.forbidden l d) (heads old.forbidden l d) (is_still item.word && nat_eq l item.layer) (a.forbidden l d) (ap (λ b. is_still item.word && b) (eq_sym l item.layer)) (m.forbidden l d);
  told = λ l d. listed (λ (i : Item). tells_movement i.word && is_on l i) xs item (heads new.told l d) (heads old.told l d) (tells_movement item.word && nat_eq l item.layer) (a.told l d) (ap (λ b. tells_movement item.word && b) (eq_sym l item.layer)) (m.told l d);
  layers = λ l. placed_test is_some refl xs item l (member new.layers l) (member old.layers l) (is_first item old) first (a.layers l ∙ ap (λ b. b || member old.layers l) (sym (and_yes (is_first item old && nat_eq l item.layer)))) (m.layers l);
  placed = λ l found e. by_old l found e (placed_on l xs) refl;
  placed_only = λ o here. elim (or_cases (is_first item old && nat_eq o item.object) (member old.placed o) (sym (a.placed o) ∙ here)) [
    | inl h ↦ (let parts = and_parts (is_first item old) (nat_eq o item.object) h in (item.layer, item, first_there parts.0, sym (eqb-true _ _ parts.1)))
    | inr h ↦ (let p = m.placed_only o h in (p.0, p.1, placed_still p.0 xs item p.1 p.2, p.3))
  ];
  covered = λ l d. placed_test is_some refl xs item l (heads new.covered l d) (heads old.covered l d) (is_first item old) first (a.covered l d ∙ ap (λ b. b || heads old.covered l d) (sym (and_yes (is_first item old && nat_eq l item.layer)))) (m.covered l d);
  settled = λ l d. placed_test settles refl xs item l (heads new.settled l d) (heads old.settled l d) (is_first item old) first (a.settled l d ∙ ap (λ b. b || heads old.settled l d) (swap_last (is_first item old) (tells_movement item.word) (nat_eq l item.layer))) (m.settled l d);
  headed = λ l d. placed_test (begins d) refl xs item l (heads new.headed l d) (heads old.headed l d) (is_first item old) first (a.headed l d ∙ ap (λ b. b || heads old.headed l d) (ap (λ b. nat_eq l item.layer && b) (toward_test (is_first item old) item.word d) ∙ shift (nat_eq l item.layer) (is_first item old) (is_toward (toward true item.word) d))) (m.headed l d);
  proper_required = a.proper_required m.proper_required;
  proper_forbidden = a.proper_forbidden m.proper_forbidden;
  proper_headed = a.proper_headed m.proper_headed;
} where
  first : is_first item old ≡ (names item.word && not (is_some (placed_on item.layer xs)))
  first = ap (λ b. names item.word && not b) (m.layers item.layer)

  not_is : (b : Bool) → not b ≡ true → b ≡ false
  not_is true e = cc
  not_is false e = refl

  first_there : is_first item old ≡ true → placed_on item.layer (xs ++ item ∷ []) ≡ Some item
  first_there e =
      let parts = and_parts (names item.word) (not (is_some (placed_on item.layer xs))) (sym first ∙ e) in
      let free = none_from (placed_on item.layer xs) (not_is (is_some (placed_on item.layer xs)) parts.1) in
      placed_new item.layer xs item free ∙ ap (λ b. cond (b && nat_eq item.layer item.layer) (Some item) None) parts.0 ∙ ap (λ b. cond b (Some item) None) (eq-eqb item.layer item.layer refl)

  by_new : (l : ℕ) (found : Item) → placed_on l xs ≡ None → (b : Bool) → places_on l item ≡ b → cond b (Some item) None ≡ Some found → member new.placed found.object ≡ true
  by_new l found p true t e =
      let parts = and_parts (names item.word) (nat_eq item.layer l) t in
      let yes : is_first item old ≡ true = first ∙ ap (λ b. b && not (is_some (placed_on item.layer xs))) parts.0 ∙ ap (λ (o : Option Item). not (is_some o)) (ap (λ (k : ℕ). placed_on k xs) (eqb-true _ _ parts.1) ∙ p) in
      let same : item ≡ found = cc in
      subst (λ (i : Item). member new.placed i.object ≡ true) same (a.placed item.object ∙ or_left _ _ (and_from _ _ yes (eq-eqb item.object item.object refl)))
  by_new l found p false t e = (let none : Option Item = None in let f : none ≡ Some found = e in cc)

  by_old : (l : ℕ) (found : Item) → placed_on l (xs ++ item ∷ []) ≡ Some found → (o : Option Item) → placed_on l xs ≡ o → member new.placed found.object ≡ true
  by_old l found e (Some other) p = (let same : other ≡ found = (let f : Some other ≡ Some found = sym (placed_still l xs item other p) ∙ e in cc) in
      a.placed found.object ∙ or_right _ _ (m.placed l found (p ∙ ap Some same)))
  by_old l found e None p = by_new l found p (places_on l item) refl (sym (placed_new l xs item p) ∙ e)

pub more_at : (items : List Item) (i : ℕ) (d : Item) (old new : Masks) → i < length items → AreMasksOf (take i items) old → IsAdded (get_or items i d) old new → AreMasksOf (take (i + 1) items) new
more_at items i d old new within m a = subst (λ (xs : List Item). AreMasksOf xs new) (sym (take_more items i d within)) (masks_more (take i items) (get_or items i d) old new m a)
