-- Numbers of cells by their labels.
use Rattle.std.proofs.Common.{◌≡◌, ℕ, suc, zero, ◌+◌, ◌<◌, Bool, true, false, cond, ◌||◌, List, [], ◌∷◌, ◌++◌, length, take, map, slice_set, replicate, Option, Some, None, decimal, refl, ap, ap₂, sym, ◌∙◌, arith}
use Rattle.std.proofs.lemmas.List.{append_assoc}
use Rattle.std.specs.List.{list_any, position_from}
use Rattle.std.specs.Str.{bytes_eq}
use Rattle.std.proofs.lemmas.Iterator.Adapters.{position_from-zero}
use Rattle.std.proofs.lemmas.Slice.Eq.{bytes_eq-Decides}
use Rattle.std.proofs.lemmas.Bool.{true≢false}
use Rattle.std.proofs.lemmas.List.Quantifiers.{position-Some}
use Rattle.pz_base.specs.NameSet.{number_in, is_name_of}
use Rattle.pz_json_text.specs.Labels.{AreDistinct, text_at}
use Rattle.pz_json_text.specs.CellTexts.{with_cell, piece}

or_parts : (a b : Bool) → (a || b) ≡ false → (a ≡ false) × (b ≡ false)
or_parts true b e = cc
or_parts false b e = (refl, e)

-- a new text behind texts of which none stands twice
pub distinct_more : (texts : List (List ℕ)) (text : List ℕ) → AreDistinct texts → is_name_of texts text ≡ false → AreDistinct (texts ++ text ∷ [])
distinct_more [] text d e = (refl, tt)
distinct_more (t ∷ ts) text d e =
    let parts = or_parts (bytes_eq text t) (list_any (bytes_eq text) ts) e in
    (later ts t text d.0 parts.0, distinct_more ts text d.1 parts.1)
  where
    later : (ts : List (List ℕ)) (t text : List ℕ) → list_any (λ other. bytes_eq other t) ts ≡ false → bytes_eq text t ≡ false → list_any (λ other. bytes_eq other t) (ts ++ text ∷ []) ≡ false
    later [] t text h e = rw e refl
    later (u ∷ ts) t text h e =
        let parts = or_parts (bytes_eq u t) (list_any (λ other. bytes_eq other t) ts) h in
        rw (parts.0, later ts t text parts.1 e) refl

from_more : (p : List ℕ → Bool) (i : ℕ) (xs : List (List ℕ)) (x : List ℕ) → p x ≡ false → position_from p i (xs ++ x ∷ []) ≡ position_from p i xs
from_more p i [] x e = rw e refl
from_more p i (y ∷ xs) x e = ap (λ o. cond (p y) (Some i) o) (from_more p (i + 1) xs x e)

from_new : (p : List ℕ → Bool) (i : ℕ) (xs : List (List ℕ)) (x : List ℕ) → position_from p i xs ≡ None → p x ≡ true → position_from p i (xs ++ x ∷ []) ≡ Some (i + length xs)
from_new p i [] x e h = rw h (ap Some (omega arith))
from_new p i (y ∷ xs) x e h = by (p y) i (length xs) (position_from p (i + 1) xs) (position_from p (i + 1) (xs ++ x ∷ [])) e (λ none. from_new p (i + 1) xs x none h)
  where
    by : (b : Bool) (i n : ℕ) (old new : Option ℕ) → cond b (Some i) old ≡ None → (old ≡ None → new ≡ Some (i + 1 + n)) → cond b (Some i) new ≡ Some (i + suc n)
    by true i n old new e f = cc
    by false i n old new e f = f e ∙ ap Some (omega arith)

-- another text has the number that it had
number_kept : (known : List (List ℕ)) (cell other : List ℕ) → bytes_eq other cell ≡ false → number_in (known ++ cell ∷ []) other ≡ number_in known other
number_kept known cell other e = position_from-zero (bytes_eq other) (known ++ cell ∷ []) ∙ from_more (bytes_eq other) 0 known cell e ∙ sym (position_from-zero (bytes_eq other) known)

-- a new text has the next number
number_new : (known : List (List ℕ)) (cell : List ℕ) → number_in known cell ≡ None → number_in (known ++ cell ∷ []) cell ≡ Some (length known)
number_new known cell e =
    let itself : bytes_eq cell cell ≡ true = (bytes_eq-Decides cell cell).1 refl in
    let next : 0 + length known ≡ length known = omega arith in
    position_from-zero (bytes_eq cell) (known ++ cell ∷ [])
    ∙ from_new (bytes_eq cell) 0 known cell (sym (position_from-zero (bytes_eq cell) known) ∙ e) itself ∙ ap Some next

back : (x y : List ℕ) → bytes_eq y x ≡ false → bytes_eq x y ≡ false
back x y e = by (bytes_eq x y) refl
  where
    by : (b : Bool) → bytes_eq x y ≡ b → b ≡ false
    by true h = absurd (true≢false (sym ((bytes_eq-Decides y x).1 (sym ((bytes_eq-Decides x y).0 h))) ∙ e))
    by false h = refl

pub none_at : (t : List ℕ) (ts : List (List ℕ)) (k : ℕ) → list_any (λ other. bytes_eq other t) ts ≡ false → k < length ts → bytes_eq (text_at ts k) t ≡ false
none_at t [] k h l = absurd (omega arith)
none_at t (u ∷ ts) zero h l = (or_parts (bytes_eq u t) (list_any (λ other. bytes_eq other t) ts) h).0
none_at t (u ∷ ts) (suc k) h l = none_at t ts k (or_parts (bytes_eq u t) (list_any (λ other. bytes_eq other t) ts) h).1 (omega arith)

all_kept : (known texts : List (List ℕ)) (cell : List ℕ) → list_any (λ other. bytes_eq other cell) texts ≡ false → map (number_in known) texts ≡ map (number_in (known ++ cell ∷ [])) texts
all_kept known [] cell h = refl
all_kept known (t ∷ ts) cell h =
    let parts = or_parts (bytes_eq t cell) (list_any (λ other. bytes_eq other cell) ts) h in
    ap₂ (λ x xs. x ∷ xs) (sym (number_kept known cell t parts.0)) (all_kept known ts cell parts.1)

-- each label's number, with a label that had none before
pub numbers_more : (known texts : List (List ℕ)) (label : ℕ) → AreDistinct texts → label < length texts → number_in known (text_at texts label) ≡ None
    → slice_set (map (number_in known) texts) label (Some (length known)) ≡ map (number_in (known ++ text_at texts label ∷ [])) texts
numbers_more known [] label d h e = absurd (omega arith)
numbers_more known (t ∷ ts) zero d h e = ap₂ (λ x xs. x ∷ xs) (sym (number_new known t e)) (all_kept known ts t d.0)
numbers_more known (t ∷ ts) (suc label) d h e =
    ap₂ (λ x xs. x ∷ xs) (sym (number_kept known (text_at ts label) t (apart t ts label d.0 (omega arith)))) (numbers_more known ts label d.1 (omega arith) e)
  where
    apart : (t : List ℕ) (ts : List (List ℕ)) (k : ℕ) → list_any (λ other. bytes_eq other t) ts ≡ false → k < length ts → bytes_eq t (text_at ts k) ≡ false
    apart t ts k h l = back t (text_at ts k) (none_at t ts k h l)

-- a cell whose text has a number
pub known_piece : (known : List (List ℕ)) (cell : List ℕ) (n : ℕ) → number_in known cell ≡ Some n → (piece known cell ≡ decimal n ++ 44 ∷ []) × (with_cell known cell ≡ known)
unfolding piece with_cell
known_piece known cell n e = (rw e refl, rw e refl)

-- a cell whose text has none
pub new_piece : (known : List (List ℕ)) (cell : List ℕ) → number_in known cell ≡ None → (piece known cell ≡ cell ++ 58 ∷ [] ++ decimal (length known) ++ 44 ∷ []) × (with_cell known cell ≡ known ++ cell ∷ [])
unfolding piece with_cell
new_piece known cell e = (rw e refl, rw e refl)

-- before the first cell no text has a number
pub none_numbered : (texts : List (List ℕ)) → replicate (length texts) None ≡ map (number_in []) texts
none_numbered [] = refl
none_numbered (t ∷ texts) = ap (λ l. None ∷ l) (none_numbered texts)

-- a new text, written in parts
pub in_parts : (old cell colon digits comma : List ℕ) → ((old ++ cell) ++ colon) ++ (digits ++ comma) ≡ old ++ (((cell ++ colon) ++ digits) ++ comma)
in_parts old cell colon digits comma =
    append_assoc (old ++ cell) colon (digits ++ comma)
    ∙ append_assoc old cell (colon ++ (digits ++ comma))
    ∙ ap (λ l. old ++ l) (sym (append_assoc (cell ++ colon) digits comma ∙ append_assoc cell colon (digits ++ comma)))

-- one more text is known
pub one_known : (known : List (List ℕ)) (cell : List ℕ) → length (known ++ cell ∷ []) ≡ length known + 1
one_known [] cell = refl
one_known (t ∷ known) cell = ap suc (one_known known cell) ∙ omega arith

-- a text that has a number
pub has_label : (texts : List (List ℕ)) (text : List ℕ) (label : ℕ) → number_in texts text ≡ Some label → (label < length texts) × (text_at texts label ≡ text)
has_label texts text label e =
    let at = position-Some (bytes_eq text) texts label [] e in
    (at.0, sym ((bytes_eq-Decides text (text_at texts label)).0 at.1))

-- the texts before stay at their places
pub kept_front : (texts more : List (List ℕ)) (text : List ℕ) → more ≡ texts ++ text ∷ [] → take (length texts) more ≡ texts
kept_front texts more text e = rw e (front texts)
  where
    front : (ts : List (List ℕ)) → take (length ts) (ts ++ text ∷ []) ≡ ts
    front [] = refl
    front (t ∷ ts) = ap (λ l. t ∷ l) (front ts)
