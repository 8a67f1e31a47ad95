-- The items of a session, taken in one by one: the lines, how many frames there were, whether the session passed.
use Rattle.std.proofs.Common.{◌≡◌, ℕ, ◌+◌, Bool, true, false, ◌||◌, List, [], ◌∷◌, ◌++◌, drop, filter, flat_map, length, if◌then◌else◌, Option, Some, refl, sym, ap, subst, ◌∙◌, inl, inr, arith}
use Rattle.std.specs.List.{list_any}
use Rattle.std.proofs.lemmas.Bool.{cases_Bool}
use Rattle.std.proofs.lemmas.List.{append_assoc, append-nil, length-append}
use Rattle.std.proofs.lemmas.List.Concat.{flat_map-append}
use Rattle.std.proofs.lemmas.List.Elements.{filter-append}
use Rattle.std.proofs.lemmas.List.Folds.{list_any-append}
use Rattle.pz_case.specs.declared.case.Case.{Case}
use Rattle.pz_session.specs.declared.chain.Frame.{Frame}
use Rattle.pz_case.specs.declared.item.Item.{Item}
use Rattle.pz_case.specs.declared.item.Item.TheVariants as item
use Rattle.pz_case.specs.declared.item.Verdict.{Verdict}
use Rattle.pz_case.specs.declared.recording.Record.{Record}
use Rattle.pz_case.specs.Playing.{Yields, shown_by}
use Rattle.pz_lines.specs.Lines.{close_line, frame_count, is_frame, is_from, item_line}
use Rattle.pz_session.specs.Session.{frames_as_items}
use Rattle.pz_session.specs.Case.{items_of}
use Rattle.pz_session.specs.Laws.{CloseOnce}
use Rattle.pz_engine.specs.declared.engine.Written.{Written}
use Rattle.pz_engine.specs.Engine.{line_from}
use Rattle.pz_engine.specs.Sessions.{is_pass}

-- what is written once these items of a session were taken in
pub record AreTaken (from session : ℕ) (shown : Record) (taken : List Item) (written : Written) : Type 0 where
  pub lines : written.lines ≡ flat_map (item_line session shown.name (frame_count shown.items)) (filter (is_from from) taken)
  pub frames : written.frames ≡ frame_count taken
  pub passed : written.passed ≡ list_any is_pass taken

pub or_false : (b : Bool) → (b || false) ≡ b
or_false true = refl
or_false false = refl

-- nothing comes behind the close of items that close once
ends : (n : ℕ) (frames : List (ℕ × Frame)) (end verdict : Verdict) (taken rest : List Item) → taken ++ item.Close verdict ∷ rest ≡ frames_as_items n frames ++ item.Close end ∷ [] → rest ≡ []
unfolding frames_as_items
ends n [] end verdict [] rest e = ap (drop 1) e
ends n (f ∷ frames) end verdict [] rest e = absurd (let is : item.Close verdict ∷ rest ≡ item.Frame n f.1.kind f.0 f.1.level_text ∷ (frames_as_items (n + 1) frames ++ item.Close end ∷ []) = e in cc)
ends n [] end verdict (x ∷ taken) rest e = absurd (omega (arith, ap length e, length-append taken (item.Close verdict ∷ rest)))
ends n (f ∷ frames) end verdict (x ∷ taken) rest e = ends (n + 1) frames end verdict taken rest (ap (drop 1) e)

pub frames-append : (xs ys : List Item) → frame_count (xs ++ ys) ≡ frame_count xs + frame_count ys
frames-append xs ys = ap length (filter-append is_frame xs ys) ∙ length-append (filter is_frame xs) (filter is_frame ys)

-- the frames before a close are all that the session has
pub all_frames : CloseOnce → (case : Case) (taken rest : List Item) (verdict : Verdict) → taken ++ item.Close verdict ∷ rest ≡ items_of case → frame_count taken ≡ frame_count (items_of case)
all_frames law case taken rest verdict e =
    let once = law case in
    let last : rest ≡ [] = ends 0 once.0 once.1.0 verdict taken rest (e ∙ once.1.1) in
    let all : frame_count (items_of case) ≡ frame_count taken + frame_count (item.Close verdict ∷ rest) = ap frame_count (sym e) ∙ frames-append taken (item.Close verdict ∷ rest) in
    let none : frame_count (item.Close verdict ∷ rest) ≡ 0 = ap (λ xs. frame_count (item.Close verdict ∷ xs)) last in
    omega (arith, all, none)

-- only the line of a close tells how many frames there were
pub same_line : (session : ℕ) (name : List ℕ) (frames all : ℕ) (x : Item) → ((verdict : Verdict) → x ≡ item.Close verdict → frames ≡ all) → item_line session name frames x ≡ item_line session name all x
same_line session name frames all (item.Frame number kind at level_text) h = refl
same_line session name frames all (item.Close verdict) h = ap (λ k. close_line session name k verdict) (h verdict refl)

one_line : (f : Item → List ℕ) (p : Item → Bool) (x : Item) → flat_map f (filter p (x ∷ [])) ≡ (if p x then f x else [])
one_line f p x = elim (cases_Bool (p x)) [ inl holds ↦ rw holds (append-nil (f x)) | inr fails ↦ rw fails refl ]

more_lines : (f : Item → List ℕ) (p : Item → Bool) (taken : List Item) (x : Item) → flat_map f (filter p (taken ++ x ∷ [])) ≡ flat_map f (filter p taken) ++ (if p x then f x else [])
more_lines f p taken x =
    ap (flat_map f) (filter-append p taken (x ∷ [])) ∙ (flat_map-append f (filter p taken) (filter p (x ∷ [])) ∙ ap (λ t. flat_map f (filter p taken) ++ t) (one_line f p x))

-- one item more
one_taken : CloseOnce → (from session : ℕ) (case : Case) (taken rest : List Item) (x : Item) (written more : Written) → taken ++ x ∷ rest ≡ items_of case
    → AreTaken from session (shown_by items_of case) taken written
    → more.lines ≡ written.lines ++ line_from from session case.name written.frames x
    → more.frames ≡ written.frames + frame_count (x ∷ [])
    → more.passed ≡ (written.passed || is_pass x)
    → AreTaken from session (shown_by items_of case) (taken ++ x ∷ []) more
one_taken law from session case taken rest x written more is so_far lines frames passed =
    let all = frame_count (items_of case) in
    let line = item_line session case.name all in
    let same : item_line session case.name written.frames x ≡ line x =
    same_line session case.name written.frames all x (λ verdict e. so_far.frames ∙ all_frames law case taken rest verdict (ap (λ y. taken ++ y ∷ rest) (sym e) ∙ is)) in
    record {
      lines = lines ∙ (ap (λ l. l ++ line_from from session case.name written.frames x) so_far.lines
          ∙ (ap (λ l. flat_map line (filter (is_from from) taken) ++ (if is_from from x then l else [])) same
          ∙ sym (more_lines line (is_from from) taken x)));
      frames = frames ∙ (ap (λ n. n + frame_count (x ∷ [])) so_far.frames ∙ sym (frames-append taken (x ∷ [])));
      passed = passed ∙ (ap (λ b. b || is_pass x) so_far.passed ∙ (ap (λ b. list_any is_pass taken || b) (sym (or_false (is_pass x))) ∙ sym (list_any-append is_pass taken (x ∷ []))));
    }

-- the items of a case that were taken in, what is written of them, and those that are left
abbrev pub AreUnderWay : ℕ → ℕ → Case → List Item → Written → Type 0
AreUnderWay from session case left written = (taken : List Item) × (taken ++ left ≡ items_of case) × AreTaken from session (shown_by items_of case) taken written

-- the next item is taken in
pub next_taken : CloseOnce → (from session : ℕ) (case : Case) (name : List ℕ) (left rest : List Item) (answer : Option Item) (x : Item) (written more : Written)
    → AreUnderWay from session case left written → Yields left answer rest → answer ≡ Some x → name ≡ case.name
    → more.lines ≡ written.lines ++ line_from from session name written.frames x
    → more.frames ≡ written.frames + frame_count (x ∷ [])
    → more.passed ≡ (written.passed || is_pass x)
    → AreUnderWay from session case rest more
next_taken law from session case name left rest answer x written more so_far yields some named lines frames passed =
    let next : left ≡ x ∷ rest = subst (λ (o : Option Item). Yields left o rest) some yields in
    let whole : so_far.0 ++ x ∷ rest ≡ items_of case = ap (λ xs. so_far.0 ++ xs) (sym next) ∙ so_far.1 in (
      so_far.0 ++ x ∷ [],
      append_assoc so_far.0 (x ∷ []) rest ∙ whole,
      one_taken law from session case so_far.0 rest x written more whole so_far.2 (lines ∙ ap (λ called. written.lines ++ line_from from session called written.frames x) named) frames passed,
    )
