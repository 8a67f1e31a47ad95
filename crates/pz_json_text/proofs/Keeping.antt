-- What two lists of cells that agree in some places have in common: the front of their texts, and its rest.
use Rattle.std.proofs.Common.{◌≡◌, ℕ, suc, zero, ◌+◌, ◌≤◌, ◌<◌, List, [], ◌∷◌, ◌++◌, Option, Some, None, length, take, drop, get_or, refl, ap, ap₂, sym, ◌∙◌, subst, arith}
use Rattle.std.proofs.lemmas.List.{append_assoc, append-nil, get_or-take, get_or-drop, take-take, take_all, take-append-le, length_push}
use Rattle.std.specs.List.{position_from}
use Rattle.std.specs.Str.{bytes_eq}
use Rattle.std.proofs.lemmas.Iterator.Adapters.{position_from-zero}
use Rattle.pz_base.specs.NameSet.{number_in}
use Rattle.pz_json_text.specs.Labels.{AreDistinct}
use Rattle.pz_json_text.specs.CellTexts.{known_of, with_cell, or_added, cell_text, text_to, line_end, piece}
use Rattle.pz_json_text.proofs.KnownCells.{known_more, text_to_more, is_new}
use Rattle.pz_json_text.proofs.LabelTexts.{distinct_more, none_at}

next : (n : ℕ) → n + 1 ≡ suc n
next n = omega arith

pub none_more : (n : ℕ) → n ≡ n + 0
none_more n = omega arith

pub one_more : (n d : ℕ) → n + d + 1 ≡ n + suc d
one_more n d = omega arith

-- the text of the first cells depends on them alone
pub same_front : (width : ℕ) (old new : List (List ℕ)) (n : ℕ) → take n old ≡ take n new → text_to width old n ≡ text_to width new n
same_front width old new zero e = refl
same_front width old new (suc n) e =
    let less : take n old ≡ take n new = sym (take-take n (suc n) old (omega arith)) ∙ ap (take n) e ∙ take-take n (suc n) new (omega arith) in
    let cell : get_or old n [] ≡ get_or new n [] = sym (get_or-take (suc n) old n [] (omega arith)) ∙ ap (λ (l : List (List ℕ)). get_or l n []) e ∙ get_or-take (suc n) new n [] (omega arith) in
    subst (λ (m : ℕ). text_to width old m ≡ text_to width new m) (next n)
    (text_to_more width old n
    ∙ ap₂ (λ (a b : List ℕ). a ++ b) (same_front width old new n less) (ap₂ (λ (l : List (List ℕ)) (c : List ℕ). piece (known_of l) c ++ line_end width (n + 1)) less cell)
    ∙ sym (text_to_more width new n))

-- the texts of two lists of cells go on alike between two numbers of cells
pub record GoesOn (width : ℕ) (old new : List (List ℕ)) (from to : ℕ) : Type 0 where
  pub rest : List ℕ
  pub before : text_to width old to ≡ text_to width old from ++ rest
  pub after : text_to width new to ≡ text_to width new from ++ rest
  pub known : known_of (take to old) ≡ known_of (take to new)

pub goes_on : (width : ℕ) (old new : List (List ℕ)) (n : ℕ) → known_of (take n old) ≡ known_of (take n new) → drop n old ≡ drop n new → length old ≡ length new
    → (d : ℕ) → n + d ≤ length old → GoesOn width old new n (n + d)
goes_on width old new n known same long zero h =
    subst (GoesOn width old new n) (none_more n) (record { rest = []; before = sym (append-nil (text_to width old n)); after = sym (append-nil (text_to width new n)); known = known })
goes_on width old new n known same long (suc d) h =
    let k = n + d in
    let here : k < length old = omega (arith, h) in
    let there : k < length new = omega (arith, here, long) in
    let so_far = goes_on width old new n known same long d (omega (arith, h)) in
    let cell : get_or old k [] ≡ get_or new k [] = sym (get_or-drop n old d []) ∙ ap (λ (l : List (List ℕ)). get_or l d []) same ∙ get_or-drop n new d [] in
    let written : cell_text width old k ≡ cell_text width new k = ap₂ (λ (l : List (List ℕ)) (c : List ℕ). piece l c ++ line_end width (k + 1)) so_far.known cell in
    subst (GoesOn width old new n) (one_more n d) (record {
      rest = so_far.rest ++ cell_text width old k;
      before = text_to_more width old k ∙ ap (λ (l : List ℕ). l ++ cell_text width old k) so_far.before ∙ append_assoc (text_to width old n) so_far.rest (cell_text width old k);
      after = text_to_more width new k ∙ ap₂ (λ (a b : List ℕ). a ++ b) so_far.after (sym written) ∙ append_assoc (text_to width new n) so_far.rest (cell_text width old k);
      known = known_more old k here ∙ ap₂ with_cell so_far.known cell ∙ sym (known_more new k there);
    })

-- ---- the known sets
module _ (known : List (List ℕ)) (cell : List ℕ) where
  or_more : (n : ℕ) (o : Option ℕ) → n ≤ length known → (take n (or_added known cell o) ≡ take n known) × (length known ≤ length (or_added known cell o)) × (length (or_added known cell o) ≤ length known + 1)
  or_more n None h = (take-append-le n known (cell ∷ []) h, omega (arith, length_push known cell), omega (arith, length_push known cell))
  or_more n (Some k) h = (refl, omega arith, omega arith)

  pub with_more : (n : ℕ) → n ≤ length known → (take n (with_cell known cell) ≡ take n known) × (length known ≤ length (with_cell known cell)) × (length (with_cell known cell) ≤ length known + 1)
  unfolding with_cell
  with_more n h = or_more n (number_in known cell) h

  still_distinct : (o : Option ℕ) → number_in known cell ≡ o → AreDistinct known → AreDistinct (or_added known cell o)
  still_distinct None e d = distinct_more known cell d (is_new known cell e)
  still_distinct (Some k) e d = d

  pub with_distinct : AreDistinct known → AreDistinct (with_cell known cell)
  unfolding with_cell
  with_distinct d = still_distinct (number_in known cell) refl d

-- there are no more known sets than cells
pub few_known : (all : List (List ℕ)) (n : ℕ) → n ≤ length all → length (known_of (take n all)) ≤ n
few_known all zero h = omega arith
few_known all (suc n) h =
    subst (λ (m : ℕ). length (known_of (take m all)) ≤ m) (next n) (
    let more : known_of (take (n + 1) all) ≡ with_cell (known_of (take n all)) (get_or all n []) = known_more all n (omega (arith, h)) in
    omega (arith, ap length more, few_known all n (omega (arith, h)), (with_more (known_of (take n all)) (get_or all n []) 0 (omega arith)).2))

-- no set is known twice
pub distinct_known : (all : List (List ℕ)) (n : ℕ) → n ≤ length all → AreDistinct (known_of (take n all))
distinct_known all zero h = tt
distinct_known all (suc n) h =
    subst (λ (m : ℕ). AreDistinct (known_of (take m all))) (next n)
    (rw (known_more all n (omega (arith, h))) (with_distinct (known_of (take n all)) (get_or all n []) (distinct_known all n (omega (arith, h)))))

-- the sets of the first cells are the first that are known of all
pub record AreFirstOf (known more : List (List ℕ)) : Type 0 where
  pub first : take (length known) more ≡ known
  pub fewer : length known ≤ length more

pub first_known : (all : List (List ℕ)) (n d : ℕ) → n + d ≤ length all → AreFirstOf (known_of (take n all)) (known_of (take (n + d) all))
first_known all n zero h =
    let known = known_of (take n all) in
    subst (λ (m : ℕ). AreFirstOf known (known_of (take m all))) (none_more n) (record { first = take_all (length known) known (omega arith); fewer = omega arith })
first_known all n (suc d) h =
    let known = known_of (take n all) in
    let so_far = first_known all n d (omega (arith, h)) in
    let more : known_of (take (n + d + 1) all) ≡ with_cell (known_of (take (n + d) all)) (get_or all (n + d) []) = known_more all (n + d) (omega (arith, h)) in
    let with = with_more (known_of (take (n + d) all)) (get_or all (n + d) []) (length known) so_far.fewer in
    subst (λ (m : ℕ). AreFirstOf known (known_of (take m all))) (one_more n d)
    (record { first = ap (take (length known)) more ∙ with.0 ∙ so_far.first; fewer = omega (arith, so_far.fewer, with.1, ap length more) })

-- a text isn't among those before it
pub none_before : (texts : List (List ℕ)) (k : ℕ) → AreDistinct texts → k < length texts → number_in (take k texts) (get_or texts k []) ≡ None
none_before texts k d h = position_from-zero (bytes_eq (get_or texts k [])) (take k texts) ∙ at texts k 0 d h
  where
    at : (texts : List (List ℕ)) (k i : ℕ) → AreDistinct texts → k < length texts → position_from (bytes_eq (get_or texts k [])) i (take k texts) ≡ None
    at [] k i d h = absurd (omega arith)
    at (t ∷ ts) zero i d h = refl
    at (t ∷ ts) (suc k) i d h = rw (none_at t ts k d.0 (omega (arith, h)), at ts k (i + 1) d.1 (omega (arith, h))) refl
