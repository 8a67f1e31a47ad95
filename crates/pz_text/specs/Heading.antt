-- The headings of sections.
use Rattle.std.specs.Prelude.{ℕ, Bool, true, false, ◌&&◌, ◌==◌, if◌then◌else◌, List, [], ◌∷◌, Option, Some, None, codes}
use Rattle.std.specs.Char.{is_whitespace, to_ascii_lowercase}
use Rattle.pz_text.specs.Characters.{is_word}
use Rattle.pz_text.specs.declared.line.Section.{Section}
use Rattle.pz_text.specs.declared.line.Section.TheVariants.{Prelude, Objects, Legend, Sounds, Layers, Rules, Wins, Levels}

-- the section that a line begins, if it is exactly one heading word
abbrev pub heading_of : List ℕ → Option Section
heading_of line =
    if is_word line (codes "objects") then Some Objects
    else (if is_word line (codes "legend") then Some Legend
    else (if is_word line (codes "sounds") then Some Sounds
    else (if is_word line (codes "collisionlayers") then Some Layers
    else (if is_word line (codes "rules") then Some Rules
    else (if is_word line (codes "winconditions") then Some Wins
    else (if is_word line (codes "levels") then Some Levels
    else None))))))

-- the line's first word is this keyword; only white space ends a word, and none may stand before it
abbrev pub begins_with_word : List ℕ → List ℕ → Bool
begins_with_word [] [] = true
begins_with_word (c ∷ cs) [] = is_whitespace c
begins_with_word [] (w ∷ ws) = false
begins_with_word (c ∷ cs) (w ∷ ws) = to_ascii_lowercase c == w && begins_with_word cs ws

-- sections.headings: The section that a line begins, if it is a heading. That is a heading word alone, in every section. In the
-- prelude a line whose first word is `objects` is one too.
abbrev pub heading_in : Section → List ℕ → Option Section
heading_in Prelude line = if begins_with_word line (codes "objects") then Some Objects else heading_of line
heading_in section line = heading_of line
