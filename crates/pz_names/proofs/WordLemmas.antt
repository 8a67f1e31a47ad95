-- The names of a line are words.
use Rattle.std.proofs.Common.{◌≡◌, ◌≢◌, ◌<◌, ◌≤◌, ◌+◌, ◌/◌, ◌%◌, ◌==◌, ℕ, suc, Bool, true, false, not, cond, ◌&&◌, ◌⊎◌, inl, inr, subst, List, [], ◌∷◌, length, map, filter, refl, ap, sym, ◌∙◌, arith, rules, le-ltb, lt-ltb}
use Rattle.std.specs.Prelude.{All}
use Rattle.std.specs.List.{slice_split, onto_first, list_all}
use Rattle.std.specs.Char.{is_whitespace, to_ascii_lowercase, encode_utf8}
use Rattle.std.proofs.lemmas.Bool.{cond-true, cond-false, cases_lt}
use Rattle.std.proofs.lemmas.Bool.Decides.{nat_tests}
use Rattle.std.proofs.lemmas.List.{length-append, length-map}
use Rattle.std.proofs.lemmas.List.Elements.{All-nil, All-cons, All-head, All-tail, All-append, All-weaker, All-filter, filter_passes}
use Rattle.pz_base.specs.Name.{lower_case, name_of}
use Rattle.pz_text.specs.Words.{words, names_of}
use Rattle.pz_game.specs.Word.{IsWord}

-- ---- the bytes of a character

-- no character that is white space is one of these
apart : (c : ℕ) → is_whitespace c ≡ false → c ≢ 32 × c ≢ 10 × c ≢ 13
apart c e = (λ s. clash 32 s refl, λ s. clash 10 s refl, λ s. clash 13 s refl)
  where
    clash : (k : ℕ) → c ≡ k → is_whitespace k ≡ true → ⊥
    clash k s white = let other : is_whitespace k ≡ false = ap is_whitespace (sym s) ∙ e in cc

-- a byte that is no space, no end of a line and no capital letter
abbrev IsSolid : ℕ → Type 0
IsSolid b = (b ≢ 32 × b ≢ 10 × b ≢ 13) × (to_ascii_lowercase b ≡ b)

high_solid : (b : ℕ) → 128 ≤ b → IsSolid b
high_solid b high = ((λ e. omega arith, λ e. omega arith, λ e. omega arith), grind (arith, nat_tests))

-- a letter that isn't a capital one stays
kept : (c : ℕ) → (c < 65) ⊎ (91 ≤ c) → to_ascii_lowercase c ≡ c
kept c (inl low) = cond-true _ _ _ (lt-ltb c 65 low)
kept c (inr high) = cond-false _ _ _ (le-ltb c 65 (omega arith)) ∙ cond-false _ _ _ (le-ltb c 91 high)

capital : (c : ℕ) → 65 ≤ c → c < 91 → to_ascii_lowercase c ≡ c + 32
capital c low high = cond-false _ _ _ (le-ltb c 65 low) ∙ cond-true _ _ _ (lt-ltb c 91 high)

same_solid : (b c : ℕ) → b ≡ c → IsSolid c → IsSolid b
same_solid b c e h = subst IsSolid (sym e) h

-- a character in lower case that was no white space
solid : (c : ℕ) → is_whitespace c ≡ false → IsSolid (to_ascii_lowercase c)
solid c e = by (cases_lt c 65) (cases_lt c 91)
  where
    stays : (c < 65) ⊎ (91 ≤ c) → IsSolid (to_ascii_lowercase c)
    stays h = same_solid (to_ascii_lowercase c) c (kept c h) (apart c e, kept c h)

    by : (c < 65) ⊎ (65 ≤ c) → (c < 91) ⊎ (91 ≤ c) → IsSolid (to_ascii_lowercase c)
    by (inl low) h = stays (inl low)
    by (inr low) (inr high) = stays (inr high)
    by (inr low) (inl high) =
        same_solid (to_ascii_lowercase c) (c + 32) (capital c low high)
        ((λ s. omega arith, λ s. omega arith, λ s. omega arith), kept (c + 32) (inr (omega arith)))

-- each byte of a character is solid, and there is one
abbrev AreSolid : List ℕ → Type 0
AreSolid bytes = (0 < length bytes) × All IsSolid bytes

high_cons : (b : ℕ) (bs : List ℕ) → 128 ≤ b → All IsSolid bs → All IsSolid (b ∷ bs)
high_cons b bs high h = All-cons IsSolid b bs (high_solid b high) h

four : (a b c d : ℕ) → 128 ≤ a → 128 ≤ b → 128 ≤ c → 128 ≤ d → All IsSolid (a ∷ b ∷ c ∷ d ∷ [])
four a b c d p q r s =
    high_cons a (b ∷ c ∷ d ∷ []) p (high_cons b (c ∷ d ∷ []) q (high_cons c (d ∷ []) r (high_cons d [] s (All-nil IsSolid))))

bytes_solid : (c : ℕ) → IsSolid c → AreSolid (encode_utf8 c)
unfolding encode_utf8
bytes_solid c h = by (cases_lt c 128) (cases_lt c 2048) (cases_lt c 65536)
  where
    by : (c < 128) ⊎ (128 ≤ c) → (c < 2048) ⊎ (2048 ≤ c) → (c < 65536) ⊎ (65536 ≤ c) → AreSolid (encode_utf8 c)
    by (inl a) k l =
        let e : encode_utf8 c ≡ c ∷ [] = cond-true _ _ _ (lt-ltb c 128 a) in
        subst AreSolid (sym e) (omega arith, All-cons IsSolid c [] h (All-nil IsSolid))
    by (inr a) (inl b) l =
        let e : encode_utf8 c ≡ (192 + c / 64) ∷ (128 + c % 64) ∷ [] = cond-false _ _ _ (le-ltb c 128 a) ∙ cond-true _ _ _ (lt-ltb c 2048 b) in
        subst AreSolid (sym e) (omega arith, high_cons (192 + c / 64) ((128 + c % 64) ∷ []) (omega arith) (high_cons (128 + c % 64) [] (omega arith) (All-nil IsSolid)))
    by (inr a) (inr b) (inl d) =
        let e : encode_utf8 c ≡ (224 + c / 4096) ∷ (128 + (c / 64) % 64) ∷ (128 + c % 64) ∷ [] =
        cond-false _ _ _ (le-ltb c 128 a) ∙ (cond-false _ _ _ (le-ltb c 2048 b) ∙ cond-true _ _ _ (lt-ltb c 65536 d)) in
        subst AreSolid (sym e) (omega arith, All-tail IsSolid 128 ((224 + c / 4096) ∷ (128 + (c / 64) % 64) ∷ (128 + c % 64) ∷ []) (four 128 (224 + c / 4096) (128 + (c / 64) % 64) (128 + c % 64) (omega arith) (omega arith) (omega arith) (omega arith)))
    by (inr a) (inr b) (inr d) =
        let e : encode_utf8 c ≡ (240 + c / 262144) ∷ (128 + (c / 4096) % 64) ∷ (128 + (c / 64) % 64) ∷ (128 + c % 64) ∷ [] =
        cond-false _ _ _ (le-ltb c 128 a) ∙ (cond-false _ _ _ (le-ltb c 2048 b) ∙ cond-false _ _ _ (le-ltb c 65536 d)) in
        subst AreSolid (sym e) (omega arith, four (240 + c / 262144) (128 + (c / 4096) % 64) (128 + (c / 64) % 64) (128 + c % 64) (omega arith) (omega arith) (omega arith) (omega arith))

-- ---- the bytes of a name

abbrev IsBlack : ℕ → Type 0
IsBlack c = is_whitespace c ≡ false

name_solid : (word : List ℕ) → All IsBlack word → All IsSolid (name_of word)
name_solid [] h = All-nil IsSolid
name_solid (c ∷ cs) h =
    All-append IsSolid (encode_utf8 (to_ascii_lowercase c)) (name_of cs)
    ((bytes_solid (to_ascii_lowercase c) (solid c (All-head IsBlack c cs h))).1)
    (name_solid cs (All-tail IsBlack c cs h))

name_some : (word : List ℕ) → All IsBlack word → 0 < length word → 0 < length (name_of word)
name_some [] h some = absurd (omega arith)
name_some (c ∷ cs) h some =
    let first = bytes_solid (to_ascii_lowercase c) (solid c (All-head IsBlack c cs h)) in
    omega (arith, first.0, length-append (encode_utf8 (to_ascii_lowercase c)) (name_of cs))

all_lower : (bytes : List ℕ) → All IsSolid bytes → lower_case bytes ≡ bytes
all_lower [] h = refl
all_lower (b ∷ bs) h = cc ((All-head IsSolid b bs h).1, all_lower bs (All-tail IsSolid b bs h))

-- a name that a word spells is a word
pub IsWord-name_of : (word : List ℕ) → All IsBlack word → 0 < length word → IsWord (name_of word)
IsWord-name_of word h some = record {
  some = name_some word h some;
  solid = All-weaker IsSolid (λ c. c ≢ 32 × c ≢ 10 × c ≢ 13) (λ b s. s.0) (name_of word) (name_solid word h);
  lower = all_lower (name_of word) (name_solid word h);
}

-- ---- the words of a line

parts_black : (cs : List ℕ) → All (All IsBlack) (slice_split is_whitespace cs)
parts_black [] = All-cons (All IsBlack) [] [] (All-nil IsBlack) (All-nil (All IsBlack))
parts_black (c ∷ cs) = by (is_whitespace c) refl (slice_split is_whitespace cs) (parts_black cs)
  where
    by : (b : Bool) → is_whitespace c ≡ b → (parts : List (List ℕ)) → All (All IsBlack) parts → All (All IsBlack) (cond b ([] ∷ parts) (onto_first c parts))
    by true e parts h = All-cons (All IsBlack) [] parts (All-nil IsBlack) h
    by false e [] h = All-cons (All IsBlack) (c ∷ []) [] (All-cons IsBlack c [] e (All-nil IsBlack)) (All-nil (All IsBlack))
    by false e (part ∷ parts) h =
        All-cons (All IsBlack) (c ∷ part) parts (All-cons IsBlack c part e (All-head (All IsBlack) part parts h)) (All-tail (All IsBlack) part parts h)

abbrev has_characters : List ℕ → Bool
has_characters word = not (length word == 0)

some_characters : (word : List ℕ) → has_characters word ≡ true → 0 < length word
some_characters [] e = absurd (cc)
some_characters (c ∷ cs) e = omega arith

all_words : (ws : List (List ℕ)) → All (All IsBlack) ws → All (λ w. has_characters w ≡ true) ws → All IsWord (map name_of ws)
all_words [] h k = All-nil IsWord
all_words (w ∷ ws) h k =
    All-cons IsWord (name_of w) (map name_of ws)
    (IsWord-name_of w (All-head (All IsBlack) w ws h) (some_characters w (All-head (λ w. has_characters w ≡ true) w ws k)))
    (all_words ws (All-tail (All IsBlack) w ws h) (All-tail (λ w. has_characters w ≡ true) w ws k))

-- the names of a line are words
pub IsWord-names_of : (line : List ℕ) → All IsWord (names_of line)
IsWord-names_of line =
    all_words (words line) (All-filter has_characters (All IsBlack) (slice_split is_whitespace line) (parts_black line)) (filter_passes has_characters (slice_split is_whitespace line))

has_characters-cons : (c : ℕ) (cs : List ℕ) → has_characters (c ∷ cs) ≡ true
has_characters-cons c cs = search rules

-- a line that isn't white space alone has a name
words_some : (cs : List ℕ) → list_all is_whitespace cs ≡ false → 0 < length (words cs)
words_some [] e = absurd (cc)
words_some (c ∷ cs) e = by (is_whitespace c) refl (slice_split is_whitespace cs) (words_some cs)
  where
    by : (b : Bool) → is_whitespace c ≡ b → (parts : List (List ℕ)) → (list_all is_whitespace cs ≡ false → 0 < length (filter has_characters parts))
        → 0 < length (filter has_characters (cond b ([] ∷ parts) (onto_first c parts)))
    by true white parts h = h (ap (λ b. b && list_all is_whitespace cs) (sym white) ∙ e)
    by false black [] h = omega arith
    by false black (part ∷ parts) h =
        let e : length (filter has_characters ((c ∷ part) ∷ parts)) ≡ suc (length (filter has_characters parts)) = ap length (cond-true _ _ _ (has_characters-cons c part)) in
        let some : 0 < length (filter has_characters ((c ∷ part) ∷ parts)) = omega arith in
        some

pub names_of-some : (line : List ℕ) → list_all is_whitespace line ≡ false → 0 < length (names_of line)
names_of-some line e = omega (arith, words_some line e, length-map (words line) name_of)
