-- Bounds on the numbers of lines, and on the lines that faults name.
use Rattle.std.proofs.Common.{◌≢◌, ℕ, ◌+◌, ◌<◌, ◌≤◌, ◌==◌, Bool, true, false, List, [], ◌∷◌, ◌++◌, length, Option, Some, None, IfSome, Result, Ok, Err, arith}
use Rattle.std.specs.Prelude.{is_some, unwrap_or, if◌then◌else◌, IfOk, IfErr}
use Rattle.std.specs.Option.{option_map_or}
use Rattle.std.specs.Str.{chars}
use Rattle.std.specs.List.{All, filter_map, cons_option, slice_split}
use Rattle.std.proofs.lemmas.List.Elements.{All-nil, All-cons, All-head, All-tail}
use Rattle.pz_text.specs.Characters.{trimmed_text}
use Rattle.pz_text.specs.Comment.{outside, depth_after}
use Rattle.pz_text.specs.Heading.{heading_in}
use Rattle.pz_text.specs.Check.{too_long, misplaced_heading, missing_section, lines_of}
use Rattle.pz_text.specs.Cutting.{is_left_out, lines_from, lines_of_text}
use Rattle.pz_text.specs.Section.{is_heading_of, before_heading, behind_heading, lines_in}
use Rattle.pz_base.specs.Fault.{first_fault, or_else, unless, and_then}
use Rattle.pz_text.specs.declared.line.Section.{Section}
use Rattle.pz_text.specs.declared.line.Section.TheVariants.{Prelude}
use Rattle.pz_text.specs.declared.line.Line.{Line}
use Rattle.pz_base.specs.declared.fault.Code.{Code}
use Rattle.pz_base.specs.declared.fault.Code.TheVariants as code
use Rattle.pz_base.specs.declared.fault.SourceFault.{SourceFault}

-- what a function gives of things that pass a test passes another
pub All-filter_map : {A B : Type 0} (P : A → Type 0) (Q : B → Type 0) (f : A → Option B) → ((x : A) → P x → IfSome (f x) Q) → (xs : List A) → All P xs → All Q (filter_map f xs)
All-filter_map P Q f each [] all = All-nil Q
All-filter_map {A} {B} P Q f each (x ∷ xs) all = by (f x) (each x (All-head P x xs all)) (filter_map f xs) (All-filter_map P Q f each xs (All-tail P x xs all))
  where
    by : (o : Option B) → IfSome o Q → (ys : List B) → All Q ys → All Q (cons_option o ys)
    by None h ys rest = rest
    by (Some y) h ys rest = All-cons Q y ys h rest

-- the lines of a section are lines of the text
module _ (P : Line → Type 0) where
  before_heading-all : (lines : List Line) → All P lines → All P (before_heading lines)
  before_heading-all [] all = All-nil P
  before_heading-all (line ∷ lines) all = by line.is_heading (before_heading lines) (before_heading-all lines (All-tail P line lines all))
    where
      by : (b : Bool) (ys : List Line) → All P ys → All P (if b then [] else line ∷ ys)
      by true ys rest = All-nil P
      by false ys rest = All-cons P line ys (All-head P line lines all) rest

  behind_heading-all : (section : Section) (lines : List Line) → All P lines → All P (behind_heading section lines)
  behind_heading-all section [] all = All-nil P
  behind_heading-all section (line ∷ lines) all = by (is_heading_of section line) (behind_heading section lines) (behind_heading-all section lines (All-tail P line lines all))
    where
      by : (b : Bool) (ys : List Line) → All P ys → All P (if b then lines else ys)
      by true ys rest = All-tail P line lines all
      by false ys rest = rest

  pub lines_in-all : (section : Section) (lines : List Line) → All P lines → All P (lines_in section lines)
  lines_in-all Prelude lines all = before_heading-all lines all
  lines_in-all section lines all = before_heading-all (behind_heading section lines) (behind_heading-all section lines all)

-- the number of a line is at most this one
abbrev pub IsWithin : ℕ → Line → Type 0
IsWithin n line = line.number ≤ n

-- a check gives no want of memory
abbrev pub IsOfText : Code → Type 0
IsOfText c = c ≢ code.Memory

-- and the line that a fault of the text names
abbrev pub Names : ℕ → SourceFault → Type 0
Names n fault = IsOfText fault.code × (fault.line ≤ n)

-- the lines are numbered from the first on
lines_from-numbered : (P : ℕ → Type 0) (section : Section) (depth number : ℕ) (raws : List (List ℕ)) → ((k : ℕ) → number ≤ k → k < number + length raws → P k)
    → All (λ line. P line.number) (lines_from section depth number raws)
lines_from-numbered P section depth number [] each = All-nil (λ (line : Line). P line.number)
lines_from-numbered P section depth number (raw ∷ more) each =
    let line = trimmed_text raw in
    let left = outside section true [] depth line in
    let text = trimmed_text left in
    let heading = heading_in section text in
    let after = unwrap_or heading section in
    let read : Line = record { number = number; section = after; is_heading = is_some heading; text = text } in
    by (is_left_out depth line left text) read (each number (omega arith) (omega arith)) (lines_from after (depth_after section true [] depth line) (number + 1) more)
    (lines_from-numbered P after (depth_after section true [] depth line) (number + 1) more (λ k above below. each k (omega arith) (omega arith)))
  where
    by : (b : Bool) (read : Line) → P read.number → (rest : List Line) → All (λ line. P line.number) rest → All (λ line. P line.number) ((if b then [] else read ∷ []) ++ rest)
    by true read here rest all = all
    by false read here rest all = All-cons (λ (line : Line). P line.number) read rest here all

module _ (n : ℕ) where
  pub first_fault-within : {A : Type 0} (at : A → ℕ) (names : List A → A → Option Code) (before xs : List A) → ((above : List A) (x : A) → IfSome (names above x) IsOfText) → All (λ x. at x ≤ n) xs
      → IfSome (first_fault at names before xs) (Names n)
  first_fault-within at names before [] sound all = tt
  first_fault-within at names before (x ∷ xs) sound all =
      by (names before x) (sound before x) (first_fault at names (before ++ x ∷ []) xs) (first_fault-within at names (before ++ x ∷ []) xs sound (All-tail (λ x. at x ≤ n) x xs all))
    where
      by : (o : Option Code) → IfSome o IsOfText → (later : Option SourceFault) → IfSome later (Names n) → IfSome (option_map_or (λ code. Some (record { code = code; line = at x })) o later) (Names n)
      by None here later rest = rest
      by (Some code) here later rest = (here, All-head (λ x. at x ≤ n) x xs all)

  pub or_else-within : (first later : Option SourceFault) → IfSome first (Names n) → IfSome later (Names n) → IfSome (or_else first later) (Names n)
  or_else-within None later a b = b
  or_else-within (Some fault) later a b = a

  pub unless-within : {A : Type 0} (check : Option SourceFault) (later : Result A SourceFault) → IfSome check (Names n) → IfErr later (Names n) → IfErr (unless check later) (Names n)
  unless-within None later a b = b
  unless-within (Some fault) later a b = a

  pub and_then-within : {A B : Type 0} (Q : A → Type 0) (next : A → Result B SourceFault) (r : Result A SourceFault) → IfErr r (Names n) → IfOk r Q → ((x : A) → Q x → IfErr (next x) (Names n))
      → IfErr (and_then next r) (Names n)
  and_then-within Q next (Ok x) refused read each = each x read
  and_then-within Q next (Err fault) refused read each = refused

-- what is read unless a check names a line passes a test that it passes without the check
pub unless-ok : {A : Type 0} (Q : A → Type 0) (check : Option SourceFault) (later : Result A SourceFault) → IfOk later Q → IfOk (unless check later) Q
unless-ok Q None later read = read
unless-ok Q (Some fault) later read = tt

-- anything that is read
pub any-ok : {A E : Type 0} (r : Result A E) → IfOk r (λ _. Unit {0})
any-ok (Ok x) = tt
any-ok (Err e) = tt

-- what is read after something else passes a test
pub and_then-ok : {A B : Type 0} (P : A → Type 0) (Q : B → Type 0) (next : A → Result B SourceFault) (r : Result A SourceFault) → IfOk r P → ((x : A) → P x → IfOk (next x) Q) → IfOk (and_then next r) Q
and_then-ok P Q next (Ok x) read each = each x read
and_then-ok P Q next (Err fault) read each = tt

-- the lines of a text have the numbers of its lines
pub cut-numbered : (P : ℕ → Type 0) (text : List ℕ) → ((k : ℕ) → 1 ≤ k → k ≤ length (slice_split (λ c. c == 10) text) → P k) → All (λ line. P line.number) (lines_of_text text)
cut-numbered P text each = lines_from-numbered P Prelude 0 1 (slice_split (λ c. c == 10) text) (λ k above below. each k above (omega arith))

pub cut-within : (text : List ℕ) → All (IsWithin (length (slice_split (λ c. c == 10) text))) (lines_of_text text)
cut-within text = cut-numbered (λ k. k ≤ length (slice_split (λ c. c == 10) text)) text (λ k above below. below)

-- and the lines that are read, if its headings are in order, are these
pub lines-all : (P : Line → Type 0) (text : List ℕ) → All P (lines_of_text (chars text)) → IfOk (lines_of text) (All P)
lines-all P text all =
    let lines = lines_of_text (chars text) in
    let whole : Result (List Line) SourceFault = unless (missing_section lines) (Ok lines) in
    unless-ok (All P) (too_long text) (unless (misplaced_heading lines) whole) (unless-ok (All P) (misplaced_heading lines) whole (unless-ok (All P) (missing_section lines) (Ok lines) all))
