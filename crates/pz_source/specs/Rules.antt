-- RULES: its lines, cut into words.
use Rattle.std.specs.Prelude.{ℕ, ◌-◌, Bool, not, ◌==◌, if◌then◌else◌, List, [], ◌∷◌, ◌++◌, length, take, drop, map, filter, true, codes}
use Rattle.std.specs.Char.{is_whitespace}
use Rattle.pz_text.specs.Characters.{trimmed_text}
use Rattle.pz_text.specs.Comment.{ends_arrow, ends_word, ends_message, is_first_after, word_after}
use Rattle.pz_base.specs.Name.{name_of}
use Rattle.pz_text.specs.declared.line.Line.{Line}
use Rattle.pz_text.specs.declared.line.Section.TheVariants.{Rules}
use Rattle.pz_names.specs.Objects.{is_blank}
use Rattle.pz_game.specs.declared.rule_line.RuleLine.{RuleLine}

-- the word that was read, if it isn't empty
abbrev pub word_if_any : List ℕ → List (List ℕ)
word_if_any word = if length word == 0 then [] else word ∷ []

-- The words that a character ends: the word before it, and the character itself if it is a bracket, a bar, or a first plus
-- sign. An arrow is a word too; its first character was read as part of the word before it.
abbrev pub words_behind : List ℕ → ℕ → List (List ℕ)
words_behind word c =
    if is_whitespace c then word_if_any word
    else (if ends_arrow word c then word_if_any (take (length word - 1) word) ++ codes "->" ∷ []
    else word_if_any word ++ (c ∷ []) ∷ [])

-- The words of a rule line from a character on; `word` has the characters read of the current word. The text after the word
-- `message` is one word, without the white space at its ends.
abbrev pub words_from : Bool → List ℕ → List ℕ → List (List ℕ)
words_from is_first word [] = word_if_any word
words_from is_first word (c ∷ cs) =
    if ends_message word c then take 7 word ∷ word_if_any (trimmed_text (drop 7 word ++ c ∷ cs))
    else (if ends_word Rules is_first word c then words_behind word c else [])
    ++ words_from (is_first_after Rules is_first word c) (word_after Rules is_first word c) cs

-- text.marks: the words of a rule line, folded
abbrev pub rule_words : List ℕ → List (List ℕ)
rule_words text = map name_of (words_from true [] text)

abbrev pub rule_line_of : Line → RuleLine
rule_line_of line = record { number = line.number; words = rule_words line.text }

-- the rule lines: the lines that aren't blank
abbrev pub rule_lines : List Line → List RuleLine
rule_lines lines = map rule_line_of (filter (λ line. not (is_blank line)) lines)
