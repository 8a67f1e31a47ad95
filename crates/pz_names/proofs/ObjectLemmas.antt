-- Steps over paragraphs, counted down from the number of lines.
use Rattle.std.proofs.Common.{◌≡◌, ℕ, ◌<◌, ◌≤◌, ◌+◌, ◌-◌, zero, suc, Bool, true, false, not, ◌||◌, List, [], ◌∷◌, ◌++◌, length, get_or, take, refl, ap, sym, ◌∙◌, arith, append-nil, length-take}
use Rattle.std.specs.Prelude.{Option, Some, None, Ok, Err, All, if◌then◌else◌, cond, nat_le, nat_lt, map}
use Rattle.std.proofs.lemmas.List.{length-append, length-map, map-append, flat_map_more}
use Rattle.pz_base.proofs.ListLemmas.{take-next}
use Rattle.pz_base.specs.Fault.{first_fault, unless}
use Rattle.pz_base.proofs.FaultLemmas.{unless-pass}
use Rattle.pz_base.specs.declared.fault.Code.{Code}
use Rattle.pz_base.specs.declared.fault.SourceFault.{SourceFault}
use Rattle.pz_text.specs.declared.line.Line.{Line}
use Rattle.pz_names.specs.Objects.{object_names, is_blank, paragraph_of, behind_paragraph, paragraphs_within, paragraphs_of, name_line_of, has_repeat, paragraph_at, fault_below, misnames, objects_of, IsNamed}
use Rattle.pz_names.specs.declared.objects.Paragraph.{Paragraph}
use Rattle.pz_names.specs.declared.name_line.NameLine.{NameLine}
use Rattle.pz_base.specs.declared.fault.Code.TheVariants as code
use Rattle.pz_names.proofs.WordLemmas.{IsWord-names_of, names_of-some}
use Rattle.std.proofs.lemmas.Bool.Decides.{nat_tests}
use Rattle.std.proofs.lemmas.List.Elements.{All-nil, All-cons, All-map, All-same}

paragraphs_within-nil : (n : ℕ) → paragraphs_within n [] ≡ []
paragraphs_within-nil zero = refl
paragraphs_within-nil (suc n) = refl

-- at the end of the lines there is no paragraph left
pub paragraphs_within-end : (found : List Paragraph) (n : ℕ) (rest : List Line) → length rest ≡ 0 → found ++ paragraphs_within n rest ≡ found
paragraphs_within-end found n [] e = ap (λ b. found ++ b) (paragraphs_within-nil n) ∙ append-nil found
paragraphs_within-end found n (x ∷ xs) e = absurd (omega arith)

pub paragraphs_within-out : (found : List Paragraph) (n i : ℕ) (rest : List Line) → n ≤ i → found ++ paragraphs_within (n - i) rest ≡ found
paragraphs_within-out found n i rest le = let e : n - i ≡ 0 = omega arith in rw e (append-nil found)

-- one step fewer is left
paragraphs_within-step : (n i : ℕ) (rest : List Line) → i < n → paragraphs_within (n - i) rest ≡ paragraphs_within (suc (n - (i + 1))) rest
paragraphs_within-step n i rest lt = let e : n - i ≡ suc (n - (i + 1)) = omega arith in ap (λ k. paragraphs_within k rest) e

-- a turn of the loop that reads one paragraph or one blank line
pub paragraphs_within-turn : (found more : List Paragraph) (n i : ℕ) (line : Line) (others after : List Line) → i < n
    → ((m : ℕ) → more ++ paragraphs_within m after ≡ found ++ paragraphs_within (suc m) (line ∷ others))
    → more ++ paragraphs_within (n - (i + 1)) after ≡ found ++ paragraphs_within (n - i) (line ∷ others)
paragraphs_within-turn found more n i line others after lt read = read (n - (i + 1)) ∙ ap (λ b. found ++ b) (sym (paragraphs_within-step n i (line ∷ others) lt))

-- ---- one paragraph more

-- what is wrong with it, by the names of those above
pub misnames-there : (xs : List Paragraph) (i : ℕ) (x : Paragraph) (names : List (List ℕ)) → i < length xs → names ≡ object_names (map name_line_of (take i xs))
    → misnames (take i xs) x ≡ fault_below names i x
misnames-there xs i x names lt there =
    let long : length (take i xs) ≡ i = omega (arith, length-take i xs) in
    ap (λ ns. fault_below ns (length (take i xs)) x) (sym there) ∙ ap (λ n. fault_below names n x) long

pub object_names-next : (xs : List Paragraph) (i : ℕ) (x : Paragraph) (names : List (List ℕ)) → i < length xs → x ≡ get_or xs i x
    → names ≡ object_names (map name_line_of (take i xs)) → names ++ x.line.names ≡ object_names (map name_line_of (take (i + 1) xs))
object_names-next xs i x names lt is there =
    let before = map name_line_of (take i xs) in
    let next : map name_line_of (take (i + 1) xs) ≡ before ++ x.line ∷ [] = ap (map name_line_of) (take-next xs i x lt is) ∙ map-append name_line_of (take i xs) (x ∷ []) in
    ap (λ ns. ns ++ x.line.names) there ∙ (flat_map_more (λ (line : NameLine). line.names) [] before x.line ∙ ap object_names (sym next))

-- what was found where a check names no line
pub found-none : {A : Type 0} (check : Option SourceFault) (found later : A) → Ok found ≡ unless check (Ok later) → check ≡ None
found-none None found later e = refl
found-none (Some fault) found later e = cc

pub found-later : {A : Type 0} (check : Option SourceFault) (found later : A) → Ok found ≡ unless check (Ok later) → found ≡ later
found-later None found later e = cc
found-later (Some fault) found later e = cc

-- the objects by the paragraphs that were read
pub objects_of-read : {A : Type 0} (lines : List Line) (paragraphs looked : List Paragraph) (objects : List NameLine) (names later : A) → paragraphs ≡ paragraphs_of lines → looked ≡ paragraphs
    → Ok names ≡ unless (first_fault paragraph_at misnames [] looked) (Ok later) → objects ≡ map name_line_of paragraphs → objects_of lines ≡ Ok objects
objects_of-read lines paragraphs looked objects names later read same found mapped =
    let none = found-none (first_fault paragraph_at misnames [] looked) names later found in
    unless-pass (first_fault paragraph_at misnames [] (paragraphs_of lines)) (Ok (map name_line_of (paragraphs_of lines))) (ap (first_fault paragraph_at misnames []) (sym (same ∙ read)) ∙ none)
    ∙ (ap (λ bs. Ok (map name_line_of bs)) (sym read) ∙ ap (λ os. Ok os) (sym mapped))

-- ---- what is known of the objects of a source

-- a check that names no line names none of its things
module _ {A : Type 0} (at : A → ℕ) (names : List A → A → Option Code) where
  first_fault-none : (before : List A) (x : A) (xs : List A) → first_fault at names before (x ∷ xs) ≡ None
      → (names before x ≡ None) × (first_fault at names (before ++ x ∷ []) xs ≡ None)
  first_fault-none before x xs e = by (names before x) refl
    where
      by : (o : Option Code) → names before x ≡ o → (names before x ≡ None) × (first_fault at names (before ++ x ∷ []) xs ≡ None)
      by None p = (p, rw p at e)
      by (Some code) p = absurd (let t : Some (record { code = code; line = at x }) ≡ None = rw p at e in cc)

-- a paragraph that isn't named is whole, and below fewer than the most objects
passed : (whole repeat many wide : Bool)
    → (if not whole then Some code.BadObject else (if repeat then Some code.Duplicate else (if many || wide then Some code.TooLarge else None))) ≡ None
    → many ≡ false
passed true false false wide e = refl
passed true false true wide e = absurd (cc)
passed true true many wide e = absurd (cc)
passed false repeat many wide e = absurd (cc)

few_above : (before : List Paragraph) (paragraph : Paragraph) → misnames before paragraph ≡ None → length before < 512
few_above before paragraph e =
    let above = object_names (map name_line_of before) in
    let few = passed paragraph.is_whole (has_repeat above paragraph.line.names) (nat_le 512 (length before)) (nat_lt 1024 (length (above ++ paragraph.line.names))) e in
    grind (arith, nat_tests)

few_paragraphs : (before paragraphs : List Paragraph) → first_fault paragraph_at misnames before paragraphs ≡ None → length before ≤ 512 → length before + length paragraphs ≤ 512
few_paragraphs before [] e h = omega arith
few_paragraphs before (paragraph ∷ paragraphs) e h =
    let p = first_fault-none paragraph_at misnames before paragraph paragraphs e in
    let k : length (before ++ paragraph ∷ []) ≡ length before + 1 = length-append before (paragraph ∷ []) in
    let low = few_above before paragraph p.0 in
    let rest = few_paragraphs (before ++ paragraph ∷ []) paragraphs p.1 (omega arith) in
    omega arith

-- OBJECTS gives at most so many objects
pub objects_of-few : (lines : List Line) (objects : List NameLine) → objects_of lines ≡ Ok objects → length objects ≤ 512
objects_of-few lines objects e = by (first_fault paragraph_at misnames [] (paragraphs_of lines)) refl
  where
    by : (o : Option SourceFault) → first_fault paragraph_at misnames [] (paragraphs_of lines) ≡ o → length objects ≤ 512
    by (Some fault) p = absurd (let t : Err fault ≡ Ok objects = rw p at e in cc)
    by None p =
        let same : map name_line_of (paragraphs_of lines) ≡ objects = (let t : Ok (map name_line_of (paragraphs_of lines)) ≡ Ok objects = rw p at e in cc) in
        omega (arith, few_paragraphs [] (paragraphs_of lines) p (omega arith), ap length same, length-map (paragraphs_of lines) name_line_of)

-- each paragraph has a name, and its names are words
paragraphs_named : (most : ℕ) (lines : List Line) → All (λ paragraph. IsNamed paragraph.line) (paragraphs_within most lines)
paragraphs_named zero lines = All-nil (λ (paragraph : Paragraph). IsNamed paragraph.line)
paragraphs_named (suc most) [] = All-nil (λ (paragraph : Paragraph). IsNamed paragraph.line)
paragraphs_named (suc most) (line ∷ lines) = by (is_blank line) refl (paragraphs_named most lines) (paragraphs_named most (behind_paragraph lines))
  where
    by : (b : Bool) → is_blank line ≡ b → All (λ paragraph. IsNamed paragraph.line) (paragraphs_within most lines)
        → All (λ paragraph. IsNamed paragraph.line) (paragraphs_within most (behind_paragraph lines))
        → All (λ paragraph. IsNamed paragraph.line) (cond b (paragraphs_within most lines) (paragraph_of line lines ∷ paragraphs_within most (behind_paragraph lines)))
    by true e here behind = here
    by false e here behind =
        All-cons (λ (paragraph : Paragraph). IsNamed paragraph.line) (paragraph_of line lines) (paragraphs_within most (behind_paragraph lines))
        (names_of-some line.text e, IsWord-names_of line.text) behind

-- each line that OBJECTS gives has a name, and its names are words
pub objects_of-named : (lines : List Line) (objects : List NameLine) → objects_of lines ≡ Ok objects → All IsNamed objects
objects_of-named lines objects e = by (first_fault paragraph_at misnames [] (paragraphs_of lines)) refl
  where
    by : (o : Option SourceFault) → first_fault paragraph_at misnames [] (paragraphs_of lines) ≡ o → All IsNamed objects
    by (Some fault) p = absurd (let t : Err fault ≡ Ok objects = rw p at e in cc)
    by None p =
        let same : map name_line_of (paragraphs_of lines) ≡ objects = (let t : Ok (map name_line_of (paragraphs_of lines)) ≡ Ok objects = rw p at e in cc) in
        All-same IsNamed objects (map name_line_of (paragraphs_of lines)) (sym same) (All-map IsNamed name_line_of (paragraphs_of lines) (paragraphs_named (length lines) lines))
