-- Worked cases of what is told of the lines of a source.
use Rattle.std.proofs.Common.{◌≡◌, ℕ, suc, false, List, [], ◌∷◌, ◌++◌, refl}
use Rattle.std.specs.Prelude.{codes}
use Rattle.json.specs.Token.{key}
use Rattle.pz_text.specs.declared.line.Line.{Line}
use Rattle.pz_text.specs.declared.line.Section.{Section}
use Rattle.pz_text.specs.declared.line.Section.TheVariants as section
use Rattle.pz_describe.specs.Sections.{colour_words, entry_tokens, keyword_end, lines_from, prelude_tokens, sprite_lines}
use Rattle.pz_describe.specs.Values.{line_member, array, numeral, object, text}

-- lines of a section, numbered
abbrev lines_at : Section → ℕ → List (List ℕ) → List Line
lines_at section at [] = []
lines_at section at (text ∷ texts) =
    record { number = at; section = section; is_heading = false; text = text } ∷ lines_at section (suc at) texts

abbrev line_at : Section → ℕ → List ℕ → Line
line_at section at text = record { number = at; section = section; is_heading = false; text = text }

-- a keyword without a value is the whole line
whole_keyword : keyword_end (codes "noaction") ≡ 8
whole_keyword = refl

-- the value is told without the white space before it
title_told : prelude_tokens (line_at section.Prelude 1 (codes "title  A b"))
    ≡ array (numeral 1 ++ (text (codes "title") ++ text (codes "A b")))
title_told = refl

-- an object without a sprite has its colours alone
abbrev wall : List Line
wall = lines_at section.Objects 5 (codes "Wall" ∷ codes "Grey  black" ∷ codes "" ∷ [])

colours_told : colour_words (lines_at section.Objects 6 (codes "Grey  black" ∷ codes "" ∷ [])) ≡ codes "Grey" ∷ codes "black" ∷ []
colours_told = refl

no_sprite : sprite_lines (lines_at section.Objects 6 (codes "Grey  black" ∷ codes "" ∷ [])) ≡ []
no_sprite = refl

-- an object is told from its name line on
from_the_name_line : lines_from 6 wall ≡ lines_at section.Objects 6 (codes "Grey  black" ∷ codes "" ∷ [])
from_the_name_line = refl

-- a message is told by its text, a level by its rows
message_told : entry_tokens (lines_at section.Levels 9 (codes "message  Go on" ∷ []))
    ≡ object (line_member 9 ++ key (codes "message") ∷ text (codes "Go on"))
message_told = refl

level_told : entry_tokens (lines_at section.Levels 9 (codes "#." ∷ codes ".p" ∷ []))
    ≡ object (line_member 9 ++ key (codes "rows") ∷ array (text (codes "#.") ++ text (codes ".p")))
level_told = refl
