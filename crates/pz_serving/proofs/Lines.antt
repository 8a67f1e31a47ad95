-- The pieces of sessions, joined, are the lines of their recording.
use Rattle.std.proofs.Common.{◌≡◌, ◌≤◌, ◌<◌, ℕ, zero, suc, ◌+◌, ◌-◌, Bool, true, false, ◌&&◌, ◌||◌, List, [], ◌∷◌, ◌++◌, Option, Some, None, Result, Ok, Err, IfOk, length, map, take, drop, flat_map, get_or, refl, sym, ap, ap₂, subst, ◌∙◌, arith}
use Rattle.std.specs.Prelude.{slice_get}
use Rattle.std.specs.List.{concat, list_all, list_any}
use Rattle.std.specs.declared.alloc.AllocError.{AllocError}
use Rattle.std.proofs.lemmas.List.{append_assoc, append-nil, drop_all, length-drop, length-map, map-append, take-append-drop}
use Rattle.std.proofs.lemmas.List.Folds.{concat-append, list_all-append, list_any-append}
use Rattle.pz_case.specs.Playing.{Yields, shown_by}
use Rattle.pz_case.specs.declared.case.Case.{Case}
use Rattle.pz_case.specs.declared.item.Item.{Item}
use Rattle.pz_case.specs.declared.recording.Record.{Record}
use Rattle.pz_console.specs.declared.failure.Failure.{Failure}
use Rattle.pz_console.specs.declared.failure.Failure.TheVariants as failure
use Rattle.pz_engine.specs.Engine.{lines_on, next_piece, piece_of}
use Rattle.pz_engine.specs.Sessions.{all_passed, has_passed, is_pass}
use Rattle.pz_engine.specs.declared.engine.PlayedCase.{PlayedCase}
use Rattle.pz_engine.proofs.Told.{lines-append, whole_lines}
use Rattle.pz_lines.specs.Lines.{frame_count, lines_of as lines_of_record, recording_lines, text_of}
use Rattle.pz_lines.specs.Writing.{Writes, EndsFor, HasWritten}
use Rattle.pz_replay.specs.Telling.{told, told_from}
use Rattle.pz_session.specs.Case.{items_of}
use Rattle.pz_session.specs.Laws.{CloseOnce}
use Rattle.pz_session.specs.Recording.{recording}
use Rattle.pz_serving.specs.AsLines.{HandsOn, all_told, grouped, lines_of, passed_of, pieces_from, pieces_in, pieces_left, pieces_of, sessions_of, text_in}
use Rattle.pz_serving.specs.Serving.{Plays}
use Rattle.pz_serving.specs.declared.as_lines.TheConstants.{PIECE}

-- there are as many sessions as records
pub many : (k : ℕ) (shown : List Record) → length (told_from pieces_of k shown) ≡ length shown
many k [] = refl
many k (r ∷ shown) = ap suc (many (suc k) shown)

-- the pieces of the session of a case
pub pieces-at : (k m : ℕ) (f : Case → Record) (job : List Case) (n : ℕ) (case : Case) → slice_get job n ≡ Some case → m ≡ k + n → get_or (told_from pieces_of k (map f job)) n [] ≡ pieces_of m (f case)
pieces-at k m f [] n case e is = absurd (cc)
pieces-at k m f (x ∷ job) zero case e is =
    let same : x ≡ case = cc in
    let here : k ≡ m = omega arith in
    ap (λ (c : Case). pieces_of k (f c)) same ∙ ap (λ (i : ℕ). pieces_of i (f case)) here
pieces-at k m f (x ∷ job) (suc n) case e is = pieces-at (suc k) m f job n case e (omega arith)

-- a session of the job is one of its cases
pub one_of : (n : ℕ) (job : List Case) → n < length (sessions_of job) → n < length job
one_of n job h = let a = many 0 (recording job) in let b = length-map job (shown_by items_of) in omega arith

pub as_many : (job : List Case) → length (sessions_of job) ≡ length job
as_many job = many 0 (recording job) ∙ length-map job (shown_by items_of)

-- one session more
pub more_in : (sessions : List (List PlayedCase)) (pieces : List PlayedCase) → pieces_in (sessions ++ pieces ∷ []) ≡ pieces_in sessions ++ pieces
more_in [] pieces = append-nil pieces
more_in (first ∷ sessions) pieces = ap (λ (l : List PlayedCase). first ++ l) (more_in sessions pieces) ∙ sym (append_assoc first (pieces_in sessions) pieces)

and_true : (b : Bool) → (b && true) ≡ b
and_true true = refl
and_true false = refl

pub told_more : (sessions : List (List PlayedCase)) (pieces : List PlayedCase) → all_told (sessions ++ pieces ∷ []) ≡ (all_told sessions && list_any passed_of pieces)
told_more sessions pieces = list_all-append (list_any passed_of) sessions (pieces ∷ []) ∙ ap (λ b. all_told sessions && b) (and_true (list_any passed_of pieces))

-- as many groups as there are items are enough, and more don't change them
enough : (size most other : ℕ) (items : List Item) → 1 ≤ size → length items ≤ most → length items ≤ other → grouped size most items ≡ grouped size other items
enough size most other [] some a b = refl
enough size zero other (x ∷ items) some a b = absurd (omega arith)
enough size (suc most) zero (x ∷ items) some a b = absurd (omega arith)
enough size (suc most) (suc other) (x ∷ items) some a b =
    let long = length-drop size (x ∷ items) in
    ap (λ (later : List (List Item)). take size (x ∷ items) ∷ later) (enough size most other (drop size (x ∷ items)) some (omega (arith, long, a, some)) (omega (arith, long, b, some)))

dropped : (n : ℕ) (items : List Item) → length items ≤ n → drop n items ≡ []
dropped n items few = drop_all n items few

-- the next piece, and the pieces that are then left
yields : (number : ℕ) (name : List ℕ) (frames frames_after : ℕ) (items left : List Item) (answer : Option PlayedCase)
    → answer ≡ next_piece number name frames PIECE items → left ≡ drop PIECE items → frames_after ≡ frames + frame_count (take PIECE items)
    → Yields (pieces_left number name frames items) answer (pieces_left number name frames_after left)
yields number name frames frames_after [] left answer is rest counted =
    let none : left ≡ [] = rest ∙ dropped PIECE [] (omega arith) in
    subst (λ (a : Option PlayedCase). Yields [] a (pieces_left number name frames_after left)) (sym is) (refl, ap (pieces_left number name frames_after) none)
yields number name frames frames_after (x ∷ items) left answer is rest counted =
    let long = length-drop PIECE (x ∷ items) in
    let later : pieces_from number name (frames + frame_count (take PIECE (x ∷ items))) (grouped PIECE (length items) (drop PIECE (x ∷ items))) ≡ pieces_left number name frames_after left =
    ap (pieces_from number name (frames + frame_count (take PIECE (x ∷ items)))) (enough PIECE (length items) (length (drop PIECE (x ∷ items))) (drop PIECE (x ∷ items)) (omega arith) (omega (arith, long)) (omega arith))
    ∙ ap₂ (λ k (xs : List Item). pieces_left number name k xs) (sym counted) (sym rest) in
    subst (λ (a : Option PlayedCase). Yields (pieces_left number name frames (x ∷ items)) a (pieces_left number name frames_after left)) (sym is)
    (ap (λ (ps : List PlayedCase). piece_of number name frames (take PIECE (x ∷ items)) ∷ ps) later)

pub yields_if : (number : ℕ) (name called : List ℕ) (frames frames_after : ℕ) (items left : List Item) (result : Result (Option PlayedCase) AllocError) → called ≡ name
    → IfOk result (λ answer. answer ≡ next_piece number called frames PIECE items) → IfOk result (λ _. left ≡ drop PIECE items) → IfOk result (λ _. frames_after ≡ frames + frame_count (take PIECE items))
    → IfOk result (λ answer. Yields (pieces_left number name frames items) answer (pieces_left number name frames_after left))
yields_if number name called frames frames_after items left (Err e) same is rest counted = tt
yields_if number name called frames frames_after items left (Ok answer) same is rest counted =
    yields number name frames frames_after items left answer (is ∙ ap (λ n. next_piece number n frames PIECE items) same) rest counted

-- groups, one after another
joined : List (List Item) → List Item
joined [] = []
joined (items ∷ later) = items ++ joined later

all_joined : (size most : ℕ) (items : List Item) → 1 ≤ size → length items ≤ most → joined (grouped size most items) ≡ items
unfolding joined
all_joined size most [] some few = refl
all_joined size zero (x ∷ items) some few = absurd (omega arith)
all_joined size (suc most) (x ∷ items) some few =
    let long = length-drop size (x ∷ items) in
    ap (λ (later : List Item). take size (x ∷ items) ++ later) (all_joined size most (drop size (x ∷ items)) some (omega (arith, long, few, some))) ∙ take-append-drop size (x ∷ items)

-- the lines of pieces are those of their items
piece_lines : (number : ℕ) (name : List ℕ) (frames : ℕ) (groups : List (List Item)) → concat (map lines_of (pieces_from number name frames groups)) ≡ lines_on number name frames (joined groups)
unfolding joined
piece_lines number name frames [] = refl
piece_lines number name frames (items ∷ later) =
    ap (λ (l : List ℕ). lines_on number name frames items ++ l) (piece_lines number name (frames + frame_count items) later) ∙ sym (lines-append number name frames items (joined later))

piece_told : (number : ℕ) (name : List ℕ) (frames : ℕ) (groups : List (List Item)) → list_any passed_of (pieces_from number name frames groups) ≡ list_any is_pass (joined groups)
unfolding joined
piece_told number name frames [] = refl
piece_told number name frames (items ∷ later) =
    ap (λ b. list_any is_pass items || b) (piece_told number name (frames + frame_count items) later) ∙ sym (list_any-append is_pass items (joined later))

session_lines : CloseOnce → (number : ℕ) (case : Case) → concat (map lines_of (pieces_of number (shown_by items_of case))) ≡ lines_of_record number (shown_by items_of case)
session_lines law number case =
    let items = items_of case in
    piece_lines number case.name 0 (grouped PIECE (length items) items)
    ∙ ap (lines_on number case.name 0) (all_joined PIECE (length items) items (omega arith) (omega arith))
    ∙ whole_lines law number case [] items refl

session_told : (number : ℕ) (shown : Record) → list_any passed_of (pieces_of number shown) ≡ has_passed shown
session_told number shown =
    piece_told number shown.name 0 (grouped PIECE (length shown.items) shown.items) ∙ ap (list_any is_pass) (all_joined PIECE (length shown.items) shown.items (omega arith) (omega arith))

-- the lines of all sessions are those of the recording
all_lines : CloseOnce → (k : ℕ) (job : List Case) → text_in (told_from pieces_of k (map (shown_by items_of) job)) ≡ recording_lines lines_of_record k (map (shown_by items_of) job)
all_lines law k [] = refl
all_lines law k (case ∷ job) =
    let first = pieces_of k (shown_by items_of case) in
    let later = told_from pieces_of (suc k) (map (shown_by items_of) job) in
    ap concat (map-append lines_of first (pieces_in later)) ∙ concat-append (map lines_of first) (map lines_of (pieces_in later)) ∙ ap₂ (λ (l m : List ℕ). l ++ m) (session_lines law k case) (all_lines law (suc k) job)

whole_text : CloseOnce → (job : List Case) (answer : List (List PlayedCase)) → answer ≡ told pieces_of (recording job) → text_in answer ≡ text_of (recording job)
unfolding text_of
whole_text law job answer is = ap text_in is ∙ all_lines law 0 job

-- whether all passed
all_passed_in : (k : ℕ) (shown : List Record) → all_told (told_from pieces_of k shown) ≡ all_passed shown
all_passed_in k [] = refl
all_passed_in k (r ∷ shown) = ap₂ (λ (a b : Bool). a && b) (session_told k r) (all_passed_in (suc k) shown)

-- a recording that is told in lines, and handed on
pub plays : CloseOnce → (job : List Case) (old new : Writes) (end : Result Bool Failure) → HandsOn (λ answer. answer ≡ told pieces_of (recording job)) old new end → Plays (recording job) old new end
plays law job old new (Ok passed) h = (h.2 ∙ ap all_told h.1 ∙ all_passed_in 0 (recording job), subst (λ (text : List ℕ). HasWritten text old new) (whole_text law job h.0 h.1) h.3)
plays law job old new (Err (failure.WriteFault cut)) h = subst (λ (text : List ℕ). EndsFor cut text old new) (whole_text law job h.0 h.1) h.2
plays law job old new (Err failure.Memory) h = h
plays law job old new (Err failure.BadLine) h = absurd h
plays law job old new (Err failure.OpenFault) h = absurd h
plays law job old new (Err failure.ReadFault) h = absurd h
plays law job old new (Err (failure.File cause)) h = absurd h
plays law job old new (Err failure.LaneLost) h = absurd h
