-- Laws of the words on texts.
use Rattle.std.proofs.Common.{◌≡◌, ℕ, Bool, true, false, cond, if◌then◌else◌, ◌&&◌, ◌||◌, ◌==◌, List, [], ◌∷◌, ◌++◌, length, length-append, rules, sym, suc, ◌+◌, ◌≤◌, map, Bor, refl, ap, ◌∙◌, arith}
use Rattle.std.specs.List.{list_any, sum_by, slice_split, onto_first}
use Rattle.std.proofs.lemmas.List.Sums.{sum_by-cons}
use Rattle.std.specs.Str.{drop_trailing_whitespace}
use Rattle.std.specs.Char.{is_whitespace}
use Rattle.pz_text.specs.Characters.{is_word}
use Rattle.pz_text.specs.Comment.{outside, depth_after, word_after, is_first_after, is_plain_from}
use Rattle.pz_text.specs.declared.line.Section.{Section}

cond_and_false : (b : Bool) (xs ys : List ℕ) → cond (b && false) xs ys ≡ ys
cond_and_false true xs ys = refl
cond_and_false false xs ys = refl

length-push_is_zero : (xs : List ℕ) (c : ℕ) → (length (xs ++ c ∷ []) == 0) ≡ false
length-push_is_zero [] c = refl
length-push_is_zero (x ∷ xs) c = ap (λ n. n == 0) (length-append (x ∷ xs) (c ∷ [])) ∙ search rules

-- white space at the end goes
pub drop_trailing-push_white : (xs : List ℕ) (c : ℕ) → is_whitespace c ≡ true → drop_trailing_whitespace (xs ++ c ∷ []) ≡ drop_trailing_whitespace xs
drop_trailing-push_white [] c e = ap (λ b. cond (b && true) [] (c ∷ [])) e
drop_trailing-push_white (x ∷ xs) c e =
    ap (λ t. cond (is_whitespace x && length t == 0) [] (x ∷ t)) (drop_trailing-push_white xs c e)

-- any other character stays, with what stands before it
pub drop_trailing-push_other : (xs : List ℕ) (c : ℕ) → is_whitespace c ≡ false → drop_trailing_whitespace (xs ++ c ∷ []) ≡ xs ++ c ∷ []
drop_trailing-push_other [] c e = ap (λ b. cond (b && true) [] (c ∷ [])) e
drop_trailing-push_other (x ∷ xs) c e =
    ap (λ t. cond (is_whitespace x && length t == 0) [] (x ∷ t)) (drop_trailing-push_other xs c e)
    ∙ (ap (λ b. cond (is_whitespace x && b) [] (x ∷ (xs ++ c ∷ []))) (length-push_is_zero xs c) ∙ cond_and_false (is_whitespace x) [] (x ∷ (xs ++ c ∷ [])))

-- a word is the empty one if it has no character
pub is_word-nil : (xs : List ℕ) → (length xs == 0) ≡ is_word xs []
is_word-nil [] = refl
is_word-nil (x ∷ xs) = search rules

-- a character that is no bracket and no beginning of plain text is kept
module _ (s : Section) (first : Bool) (word : List ℕ) (d c : ℕ) (cs : List ℕ) (none : d ≡ 0) (other : (c == 40) ≡ false) (kept : is_plain_from s first word c ≡ false) where
  pub outside-kept : outside s first word d (c ∷ cs) ≡ c ∷ outside s (is_first_after s first word c) (word_after s first word c) d cs
  outside-kept = rw none (rw (other, kept) refl)

  pub depth_after-kept : depth_after s first word d (c ∷ cs) ≡ depth_after s (is_first_after s first word c) (word_after s first word c) d cs
  depth_after-kept = rw none (rw (other, kept) refl)

-- a line without an opening bracket has no comment, where none is open before it
pub outside-plain : (s : Section) (first : Bool) (word line : List ℕ) → list_any (λ c. c == 40) line ≡ false → outside s first word 0 line ≡ line
outside-plain s first word [] none = refl
outside-plain s first word (c ∷ cs) none =
    by (c == 40) (is_plain_from s first word c) none (outside-plain s (is_first_after s first word c) (word_after s first word c) cs)
  where
    by : (b p : Bool) → (b || list_any (λ c. c == 40) cs) ≡ false
        → (list_any (λ c. c == 40) cs ≡ false → outside s (is_first_after s first word c) (word_after s first word c) 0 cs ≡ cs)
        → (if b then outside s first word 1 cs else (if p then c ∷ cs else c ∷ outside s (is_first_after s first word c) (word_after s first word c) 0 cs)) ≡ c ∷ cs
    by true p none next = cc
    by false true none next = refl
    by false false none next = ap (λ t. c ∷ t) (next none)

pub depth_after-plain : (s : Section) (first : Bool) (word line : List ℕ) → list_any (λ c. c == 40) line ≡ false → depth_after s first word 0 line ≡ 0
depth_after-plain s first word [] none = refl
depth_after-plain s first word (c ∷ cs) none =
    by (c == 40) (is_plain_from s first word c) none (depth_after-plain s (is_first_after s first word c) (word_after s first word c) cs)
  where
    by : (b p : Bool) → (b || list_any (λ c. c == 40) cs) ≡ false
        → (list_any (λ c. c == 40) cs ≡ false → depth_after s (is_first_after s first word c) (word_after s first word c) 0 cs ≡ 0)
        → (if b then depth_after s first word 1 cs else (if p then 0 else depth_after s (is_first_after s first word c) (word_after s first word c) 0 cs)) ≡ 0
    by true p none next = cc
    by false true none next = refl
    by false false none next = next none

-- the parts of a text hold no more characters than the text
length-onto_first : (x : ℕ) (parts : List (List ℕ)) → sum_by length (onto_first x parts) ≡ suc (sum_by length parts)
length-onto_first x [] = refl
length-onto_first x (part ∷ parts) =
    sum_by-cons length (x ∷ part) parts ∙ (search rules ∙ ap suc (sym (sum_by-cons length part parts)))

pub total-slice_split : (p : ℕ → Bool) (xs : List ℕ) → sum_by length (slice_split p xs) ≤ length xs
total-slice_split p [] = search rules
total-slice_split p (x ∷ xs) = by (p x) (total-slice_split p xs)
  where
    by : (b : Bool) → sum_by length (slice_split p xs) ≤ length xs → sum_by length (cond b ([] ∷ slice_split p xs) (onto_first x (slice_split p xs))) ≤ length (x ∷ xs)
    by true h = omega (arith, sum_by-cons length [] (slice_split p xs))
    by false h = omega (arith, length-onto_first x (slice_split p xs))

pub total-now : (parts : List (Bor (List ℕ))) → sum_by (λ part. length part.now) parts ≡ sum_by length (map (λ part. part.now) parts)
total-now [] = refl
total-now (part ∷ parts) =
    sum_by-cons (λ p. length p.now) part parts ∙ (ap (λ n. length part.now + n) (total-now parts) ∙ sym (sum_by-cons length part.now (map (λ p. p.now) parts)))
