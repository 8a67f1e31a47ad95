-- The items of a session, told in pieces: one by one they make a piece, and pieces make the lines of the session.
use Rattle.std.proofs.Common.{◌≡◌, ◌≤◌, ◌⊎◌, inl, inr, ⊎_elim, ℕ, zero, suc, ◌+◌, Bool, false, ◌||◌, List, [], ◌∷◌, ◌++◌, Option, Some, None, length, take, drop, if◌then◌else◌, flat_map, refl, sym, ap, ap₂, ◌∙◌, subst, append_assoc, arith}
use Rattle.std.specs.List.{list_any}
use Rattle.std.proofs.Math.Dec.{leb-zero}
use Rattle.std.proofs.lemmas.List.{append-nil, drop_all, drop_at, take_all, take_at, length-append}
use Rattle.std.proofs.lemmas.List.Folds.{list_any-append}
use Rattle.pz_case.specs.Playing.{Yields}
use Rattle.pz_case.specs.declared.case.Case.{Case}
use Rattle.pz_case.specs.declared.item.Item.{Item}
use Rattle.pz_case.specs.declared.item.Item.TheVariants as item
use Rattle.pz_lines.specs.Lines.{frame_count, item_line}
use Rattle.pz_engine.specs.declared.engine.PlayedCase.{PlayedCase}
use Rattle.pz_engine.specs.declared.engine.Written.{Written}
use Rattle.pz_engine.specs.Engine.{line_from, lines_on, next_piece, piece_of}
use Rattle.pz_engine.specs.Sessions.{is_pass}
use Rattle.pz_session.specs.Case.{items_of}
use Rattle.pz_session.specs.Laws.{CloseOnce}
use Rattle.pz_engine.proofs.Taken.{all_frames, frames-append, or_false, same_line}

-- what is written once these items were taken in, before which so many frames were shown
pub record AreOn (session : ℕ) (name : List ℕ) (before : ℕ) (held : List Item) (written : Written) : Type 0 where
  pub lines : written.lines ≡ lines_on session name before held
  pub frames : written.frames ≡ before + frame_count held
  pub passed : written.passed ≡ list_any is_pass held

-- each item is shown from the first input on
whole_line : (session : ℕ) (name : List ℕ) (frames : ℕ) (x : Item) → line_from 0 session name frames x ≡ item_line session name frames x
whole_line session name frames (item.Frame number kind at level_text) = rw (leb-zero at) refl
whole_line session name frames (item.Close verdict) = refl

pub lines-append : (session : ℕ) (name : List ℕ) (frames : ℕ) (xs ys : List Item) → lines_on session name frames (xs ++ ys) ≡ lines_on session name frames xs ++ lines_on session name (frames + frame_count xs) ys
lines-append session name frames [] ys = ap (λ k. lines_on session name k ys) (omega arith)
lines-append session name frames (x ∷ xs) ys =
    let one = frame_count (x ∷ []) in
    let both : frame_count (x ∷ xs) ≡ one + frame_count xs = frames-append (x ∷ []) xs in
    let same : (frames + one) + frame_count xs ≡ frames + frame_count (x ∷ xs) = omega (arith, both) in
    ap (λ l. item_line session name frames x ++ l) (lines-append session name (frames + one) xs ys ∙ ap (λ k. lines_on session name (frames + one) xs ++ lines_on session name k ys) same)
    ∙ sym (append_assoc (item_line session name frames x) (lines_on session name (frames + one) xs) (lines_on session name (frames + frame_count (x ∷ xs)) ys))

-- one item more of a piece
one_on : (session : ℕ) (name : List ℕ) (frames : ℕ) (held : List Item) (x : Item) (written more : Written) → AreOn session name frames held written
    → more.lines ≡ written.lines ++ line_from 0 session name written.frames x
    → more.frames ≡ written.frames + frame_count (x ∷ [])
    → more.passed ≡ (written.passed || is_pass x)
    → AreOn session name frames (held ++ x ∷ []) more
one_on session name frames held x written more so_far lines counted passed =
    record {
      lines = lines ∙ (ap (λ l. l ++ line_from 0 session name written.frames x) so_far.lines
          ∙ (ap (λ l. lines_on session name frames held ++ l) (whole_line session name written.frames x ∙ ap (λ k. item_line session name k x) so_far.frames ∙ sym (append-nil (item_line session name (frames + frame_count held) x)))
          ∙ sym (lines-append session name frames held (x ∷ []))));
      frames = (let more_frames = frames-append held (x ∷ []) in let before = so_far.frames in omega (arith, counted, before, more_frames));
      passed = passed ∙ (ap (λ b. b || is_pass x) so_far.passed ∙ (ap (λ b. list_any is_pass held || b) (sym (or_false (is_pass x))) ∙ sym (list_any-append is_pass held (x ∷ []))));
    }

-- so many items of a piece were taken in, and these are left of the session
abbrev pub AreHeld : ℕ → List ℕ → ℕ → ℕ → List Item → List Item → Written → Type 0
AreHeld session name frames taken items left written = (held : List Item) × (held ++ left ≡ items) × (length held ≡ taken) × AreOn session name frames held written

pub none_held : (session : ℕ) (name : List ℕ) (frames : ℕ) (items : List Item) (written : Written) → written.lines ≡ [] → written.frames ≡ frames → written.passed ≡ false
    → AreHeld session name frames 0 items items written
none_held session name frames items written lines counted passed = ([], refl, refl, record { lines = lines; frames = omega (arith, counted); passed = passed })

-- the next item is taken in
pub one_held : (session : ℕ) (name : List ℕ) (frames taken : ℕ) (items left rest : List Item) (answer : Option Item) (x : Item) (written more : Written)
    → AreHeld session name frames taken items left written → Yields left answer rest → answer ≡ Some x
    → more.lines ≡ written.lines ++ line_from 0 session name written.frames x
    → more.frames ≡ written.frames + frame_count (x ∷ [])
    → more.passed ≡ (written.passed || is_pass x)
    → AreHeld session name frames (taken + 1) items rest more
one_held session name frames taken items left rest answer x written more h yields some lines counted passed =
    let next : left ≡ x ∷ rest = subst (λ (o : Option Item). Yields left o rest) some yields in (
      h.0 ++ x ∷ [],
      append_assoc h.0 (x ∷ []) rest ∙ (ap (λ xs. h.0 ++ xs) (sym next) ∙ h.1),
      length-append h.0 (x ∷ []) ∙ ap (λ n. n + 1) h.2,
      one_on session name frames h.0 x written more h.3 lines counted passed,
    )

-- none is left
pub none_more : (left rest : List Item) (answer : Option Item) → Yields left answer rest → answer ≡ None → (left ≡ []) × (rest ≡ [])
none_more left rest answer yields none = subst (λ (o : Option Item). Yields left o rest) none yields

-- what a piece with these items tells
pub record IsTold (session : ℕ) (name : List ℕ) (frames most : ℕ) (items left : List Item) (frames_after : ℕ) (answer : Option PlayedCase) : Type 0 where
  pub piece : answer ≡ next_piece session name frames most items
  pub left_is : left ≡ drop most items
  pub frames_is : frames_after ≡ frames + frame_count (take most items)

-- the items that were taken in are the first
first_held : (most : ℕ) (items held left : List Item) → held ++ left ≡ items → (length held ≡ most) ⊎ ((left ≡ []) × (length held ≤ most)) → (take most items ≡ held) × (drop most items ≡ left)
first_held most items held left whole full = ⊎_elim
    (λ (e : length held ≡ most). (ap (take most) (sym whole) ∙ take_at held left most e, ap (drop most) (sym whole) ∙ drop_at held left most e))
    (λ (e : (left ≡ []) × (length held ≤ most)).
    let all : held ≡ items = sym (append-nil held) ∙ ap (λ xs. held ++ xs) (sym e.0) ∙ whole in
    (take_all most items (subst (λ xs. length xs ≤ most) all e.1) ∙ sym all, drop_all most items (subst (λ xs. length xs ≤ most) all e.1) ∙ sym e.0))
    full

piece_is : (session : ℕ) (name : List ℕ) (frames most taken : ℕ) (items held : List Item) (written : Written) (answer : Option PlayedCase)
    → take most items ≡ held → length held ≡ taken → (taken ≡ 0 → items ≡ []) → AreOn session name frames held written
    → (taken ≡ 0 → answer ≡ None) → ((taken ≡ 0 → ⊥) → answer ≡ Some (record { lines = written.lines; passed = written.passed }))
    → answer ≡ next_piece session name frames most items
piece_is session name frames most taken [] held written answer first counted empty_if on nothing one =
    nothing (sym counted ∙ ap length (sym first) ∙ no_first most [] refl)
  where
    no_first : (n : ℕ) (xs : List Item) → xs ≡ [] → length (take n xs) ≡ 0
    no_first zero [] e = refl
    no_first (suc n) [] e = refl
    no_first n (x ∷ xs) e = absurd (cc)
piece_is session name frames most taken (x ∷ items) held written answer first counted empty_if on nothing one =
    one (λ e. absurd (let empty : x ∷ items ≡ [] = empty_if e in cc)) ∙ rw (on.lines, on.passed, first) refl

-- a piece is handed over
pub told_next : (session : ℕ) (name : List ℕ) (frames most taken : ℕ) (items left : List Item) (written : Written) (frames_after : ℕ) (answer : Option PlayedCase)
    → 1 ≤ most → AreHeld session name frames taken items left written → (taken ≡ most) ⊎ ((left ≡ []) × (taken ≤ most))
    → frames_after ≡ written.frames
    → (taken ≡ 0 → answer ≡ None) → ((taken ≡ 0 → ⊥) → answer ≡ Some (record { lines = written.lines; passed = written.passed }))
    → IsTold session name frames most items left frames_after answer
told_next session name frames most taken items left written frames_after answer some_most h full counted nothing one =
    let held = h.0 in
    let firsts = first_held most items held left h.1 (⊎_elim
    (λ (e : taken ≡ most). inl (h.2 ∙ e))
    (λ (e : (left ≡ []) × (taken ≤ most)). inr (e.0, subst (λ n. n ≤ most) (sym h.2) e.1))
    full) in
    let empty_if : taken ≡ 0 → items ≡ [] = λ z. ⊎_elim
    (λ (e : taken ≡ most). absurd (omega (arith, z, e, some_most)))
    (λ (e : (left ≡ []) × (taken ≤ most)). sym h.1 ∙ ap (λ xs. held ++ xs) e.0 ∙ append-nil held ∙ no_items held (h.2 ∙ z))
    full in
    record {
      piece = piece_is session name frames most taken items held written answer firsts.0 h.2 empty_if h.3 nothing one;
      left_is = sym firsts.1;
      frames_is = counted ∙ h.3.frames ∙ ap (λ xs. frames + frame_count xs) (sym firsts.0);
    }
  where
    no_items : (xs : List Item) → length xs ≡ 0 → xs ≡ []
    no_items [] e = refl
    no_items (x ∷ xs) e = absurd (omega arith)

-- from some items of a case on, the lines are those that the case's lines have of them
pub whole_lines : CloseOnce → (session : ℕ) (case : Case) (taken rest : List Item) → taken ++ rest ≡ items_of case → lines_on session case.name (frame_count taken) rest ≡ flat_map (item_line session case.name (frame_count (items_of case))) rest
whole_lines law session case taken [] whole = refl
whole_lines law session case taken (x ∷ rest) whole =
    let all = frame_count (items_of case) in
    let here : item_line session case.name (frame_count taken) x ≡ item_line session case.name all x =
    same_line session case.name (frame_count taken) all x (λ verdict e. all_frames law case taken rest verdict (ap (λ y. taken ++ y ∷ rest) (sym e) ∙ whole)) in
    ap₂ (λ (l m : List ℕ). l ++ m) here (ap (λ k. lines_on session case.name k rest) (sym (frames-append taken (x ∷ []))) ∙ whole_lines law session case (taken ++ x ∷ []) rest (append_assoc taken (x ∷ []) rest ∙ whole))
