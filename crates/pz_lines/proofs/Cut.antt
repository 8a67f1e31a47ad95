-- A list up to an element, the element, and what follows it; and the lines that these make.
use Rattle.std.proofs.Common.{◌≡◌, ℕ, ◌+◌, ◌<◌, ◌≤◌, suc, List, [], ◌∷◌, ◌++◌, length, take, drop, get_or, flat_map, refl, ap, ◌∙◌, sym, arith}
use Rattle.std.proofs.lemmas.List.{append_assoc, append-nil, take-append-drop, take_all, at_drop_more, drop-take, take-take, length-take-le}
use Rattle.std.proofs.lemmas.Grind.{flat_map-append}
use Rattle.pz_case.specs.declared.recording.Record.{Record}
use Rattle.pz_case.specs.declared.item.Item.{Item}
use Rattle.pz_lines.specs.Lines.{frame_count, item_line, lines_of, recording_lines}

-- w elements, and k more of what is left
pub take_more_of : {X : Type 0} (w k : ℕ) (xs : List X) → take (w + k) xs ≡ take w xs ++ take k (drop w xs)
take_more_of w k xs =
    let whole : take w (take (w + k) xs) ++ drop w (take (w + k) xs) ≡ take (w + k) xs = take-append-drop w (take (w + k) xs) in
    sym whole ∙ rw (take-take w (w + k) xs (omega arith), drop-take w k xs) refl

left_at : {X : Type 0} (xs : List X) (i : ℕ) (x : X) → i < length xs → x ≡ get_or xs i x → drop i xs ≡ x ∷ drop (i + 1) xs
left_at xs i x h is = rw (← is) at (at_drop_more (λ ys. ys) xs i x h)

pub front_more : {X : Type 0} (xs : List X) (i : ℕ) (x : X) → i < length xs → x ≡ get_or xs i x → take (i + 1) xs ≡ take i xs ++ x ∷ []
front_more xs i x h is = take_more_of i 1 xs ∙ rw (left_at xs i x h is) refl

pub cut_at : {X : Type 0} (xs : List X) (i : ℕ) (x : X) → i < length xs → x ≡ get_or xs i x → xs ≡ take i xs ++ x ∷ drop (i + 1) xs
cut_at xs i x h is = sym (take-append-drop i xs) ∙ ap (λ ys. take i xs ++ ys) (left_at xs i x h is)

-- the lines of the items up to an item, and its line
pub items_more : {X : Type 0} (f : X → List ℕ) (xs : List X) (i : ℕ) (x : X) → i < length xs → x ≡ get_or xs i x
    → flat_map f (take (i + 1) xs) ≡ flat_map f (take i xs) ++ f x
items_more f xs i x h is = ap (flat_map f) (front_more xs i x h is) ∙ (flat_map-append f (take i xs) (x ∷ []) ∙ ap (λ t. flat_map f (take i xs) ++ t) (append-nil (f x)))

pub items_cut : {X : Type 0} (f : X → List ℕ) (xs : List X) (i : ℕ) (x : X) → i < length xs → x ≡ get_or xs i x
    → flat_map f xs ≡ flat_map f (take i xs) ++ (f x ++ flat_map f (drop (i + 1) xs))
items_cut f xs i x h is = ap (flat_map f) (cut_at xs i x h is) ∙ flat_map-append f (take i xs) (x ∷ drop (i + 1) xs)

numbered-append : (f : ℕ → Record → List ℕ) (n : ℕ) (xs ys : List Record) → recording_lines f n (xs ++ ys) ≡ recording_lines f n xs ++ recording_lines f (n + length xs) ys
numbered-append f n [] ys = ap (λ k. recording_lines f k ys) (omega arith)
numbered-append f n (x ∷ xs) ys =
    ap (λ t. f n x ++ t) (numbered-append f (suc n) xs ys) ∙ (sym (append_assoc (f n x) (recording_lines f (suc n) xs) (recording_lines f (suc n + length xs) ys))
    ∙ ap (λ k. f n x ++ recording_lines f (suc n) xs ++ recording_lines f k ys) (omega arith))

before_it : (xs : List Record) (i : ℕ) → i < length xs → 0 + length (take i xs) ≡ i
before_it xs i h = omega (arith, length-take-le i xs (omega arith))

-- the lines of the sessions up to a session, and its lines
pub sessions_more : (f : ℕ → Record → List ℕ) (recording xs : List Record) (i : ℕ) (x : Record) → xs ≡ recording → i < length xs → x ≡ get_or xs i x
    → recording_lines f 0 (take (i + 1) recording) ≡ recording_lines f 0 (take i recording) ++ f i x
sessions_more f recording xs i x e h is = rw (← e) (ap (recording_lines f 0) (front_more xs i x h is) ∙ (numbered-append f 0 (take i xs) (x ∷ [])
    ∙ rw (before_it xs i h) (ap (λ t. recording_lines f 0 (take i xs) ++ t) (append-nil (f i x)))))

pub sessions_cut : (f : ℕ → Record → List ℕ) (recording xs : List Record) (i : ℕ) (x : Record) → xs ≡ recording → i < length xs → x ≡ get_or xs i x
    → recording_lines f 0 recording ≡ recording_lines f 0 (take i recording) ++ (f i x ++ recording_lines f (suc i) (drop (i + 1) recording))
sessions_cut f recording xs i x e h is = rw (← e) (ap (recording_lines f 0) (cut_at xs i x h is) ∙ (numbered-append f 0 (take i xs) (x ∷ drop (i + 1) xs)
    ∙ ap (λ k. recording_lines f 0 (take i xs) ++ recording_lines f k (x ∷ drop (i + 1) xs)) (before_it xs i h)))

-- behind the last session all lines stand
pub sessions_all : (f : ℕ → Record → List ℕ) (recording xs : List Record) (i : ℕ) → xs ≡ recording → length xs ≤ i → recording_lines f 0 recording ≡ recording_lines f 0 (take i recording)
sessions_all f recording xs i e h = rw (← e) (ap (recording_lines f 0) (sym (take_all i xs h)))

-- the same of what a session showed, whose items and number of frames were read off
pub shown_cut : (session : ℕ) (shown : Record) (items : List Item) (frames i : ℕ) (x : Item) → items ≡ shown.items → frames ≡ frame_count items → i < length items → x ≡ get_or items i x
    → lines_of session shown ≡ flat_map (item_line session shown.name frames) (take i items) ++ (item_line session shown.name frames x ++ flat_map (item_line session shown.name frames) (drop (i + 1) items))
shown_cut session shown items frames i x e count h is = rw (← e, ← count) (items_cut (item_line session shown.name frames) items i x h is)

-- behind the last item all lines stand
pub shown_all : (session : ℕ) (shown : Record) (items : List Item) (frames i : ℕ) → items ≡ shown.items → frames ≡ frame_count items → length items ≤ i
    → lines_of session shown ≡ flat_map (item_line session shown.name frames) (take i items)
shown_all session shown items frames i e count h = rw (← e, ← count) (ap (flat_map (item_line session shown.name frames)) (sym (take_all i items h)))
