-- Comments: they stand in round brackets, nest, and may span lines.
use Rattle.std.specs.Prelude.{ℕ, ◌+◌, ◌-◌, not, Bool, false, ◌&&◌, ◌||◌, ◌==◌, if◌then◌else◌, nat_lt, List, [], ◌∷◌, ◌++◌, length, codes}
use Rattle.std.specs.Char.{is_whitespace}
use Rattle.pz_text.specs.Characters.{is_word, ends_in}
use Rattle.pz_text.specs.declared.line.Section.{Section}
use Rattle.pz_text.specs.declared.line.Section.TheVariants.{Prelude, Levels, Rules}

-- `word` has the characters that a reader of a line has read of the current word, and is empty between words. `is_first`: no
-- other word stands before it on the line.

-- a square bracket or a bar; each is a word of its own in RULES
abbrev pub is_bracket : ℕ → Bool
is_bracket c = c == 91 || c == 93 || c == 124

-- the end of an arrow, which is a word of its own in RULES
abbrev pub ends_arrow : List ℕ → ℕ → Bool
ends_arrow word c = c == 62 && ends_in 45 word

-- a plus sign with only white space before it on its line; in RULES it is a word of its own
abbrev pub is_first_plus : Bool → List ℕ → ℕ → Bool
is_first_plus is_first word c = is_first && length word == 0 && c == 43

-- the character ends the word before it: white space, and in RULES what is or ends a word of its own
abbrev pub ends_word : Section → Bool → List ℕ → ℕ → Bool
ends_word Rules is_first word c = is_whitespace c || is_bracket c || ends_arrow word c || is_first_plus is_first word c
ends_word section is_first word c = is_whitespace c

-- the current word after a character
abbrev pub word_after : Section → Bool → List ℕ → ℕ → List ℕ
word_after section is_first word c = if ends_word section is_first word c then [] else word ++ c ∷ []

-- whether the current word after a character is the first: only white space stands before it
abbrev pub is_first_after : Section → Bool → List ℕ → ℕ → Bool
is_first_after section is_first word c = is_first && (not (ends_word section is_first word c) || (length word == 0 && is_whitespace c))

-- text.glued-bracket: the character ends the word `message` of a line of RULES
abbrev pub ends_message : List ℕ → ℕ → Bool
ends_message word c =
    (is_word word (codes "message") && (is_whitespace c || is_bracket c)) || (is_word word (codes "message-") && c == 62)

-- text.prelude, text.message: From this character on the rest of the line is plain text, with no comment in it: in the prelude
-- from the first word on, in LEVELS after a first word `message`, in RULES after any word `message`.
abbrev pub is_plain_from : Section → Bool → List ℕ → ℕ → Bool
is_plain_from Prelude is_first word c = not (is_whitespace c)
is_plain_from Levels is_first word c = is_first && is_word word (codes "message") && is_whitespace c
is_plain_from Rules is_first word c = ends_message word c
is_plain_from section is_first word c = false

-- how many brackets are open after a character of a comment; `depth` are open before it
abbrev pub depth_past : ℕ → ℕ → ℕ
depth_past depth c = if c == 40 then depth + 1 else (if c == 41 then depth - 1 else depth)

-- text.comments: What is left of a line without its comments; `depth` brackets are open before it. A comment leaves nothing:
-- what stands at its sides is joined. A closing bracket outside a comment is plain.
abbrev pub outside : Section → Bool → List ℕ → ℕ → List ℕ → List ℕ
outside section is_first word depth [] = []
outside section is_first word depth (c ∷ cs) =
    if nat_lt 0 depth then outside section is_first word (depth_past depth c) cs
    else (if c == 40 then outside section is_first word 1 cs
    else (if is_plain_from section is_first word c then c ∷ cs
    else c ∷ outside section (is_first_after section is_first word c) (word_after section is_first word c) 0 cs))

-- how many brackets are open after the line: a comment without an end runs on
abbrev pub depth_after : Section → Bool → List ℕ → ℕ → List ℕ → ℕ
depth_after section is_first word depth [] = depth
depth_after section is_first word depth (c ∷ cs) =
    if nat_lt 0 depth then depth_after section is_first word (depth_past depth c) cs
    else (if c == 40 then depth_after section is_first word 1 cs
    else (if is_plain_from section is_first word c then 0
    else depth_after section (is_first_after section is_first word c) (word_after section is_first word c) 0 cs))
