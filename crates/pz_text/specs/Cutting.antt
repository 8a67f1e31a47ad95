-- The lines of a source.
use Rattle.std.specs.Prelude.{ℕ, ◌+◌, Bool, true, ◌&&◌, ◌||◌, ◌==◌, if◌then◌else◌, nat_lt, List, [], ◌∷◌, ◌++◌, length, is_some, unwrap_or}
use Rattle.std.specs.List.{slice_split}
use Rattle.pz_text.specs.Characters.{trimmed_text}
use Rattle.pz_text.specs.Comment.{outside, depth_after}
use Rattle.pz_text.specs.Heading.{heading_in}
use Rattle.pz_text.specs.declared.line.Section.{Section}
use Rattle.pz_text.specs.declared.line.Section.TheVariants.{Prelude}
use Rattle.pz_text.specs.declared.line.Line.{Line}

-- the line holds no character but this one
abbrev pub holds_only : ℕ → List ℕ → Bool
holds_only k [] = true
holds_only k (c ∷ cs) = c == k && holds_only k cs

-- text.void-lines: A line that is left out everywhere. Either it is void: only white space is left of it, and it begins inside
-- a comment or has part of one. Or only `=` characters are left. `line` is the line, `left` is it without comments, and `text`
-- is that without white space at its ends. `depth` brackets are open before the line.
abbrev pub is_left_out : ℕ → List ℕ → List ℕ → List ℕ → Bool
is_left_out depth line left text =
    if length text == 0 then nat_lt 0 depth || nat_lt (length left) (length line) else holds_only 61 text

-- The lines of a text from line `number` on, which begins in this section with `depth` brackets open. The comments of a heading
-- are read as in the section that it ends.
abbrev pub lines_from : Section → ℕ → ℕ → List (List ℕ) → List Line
lines_from section depth number [] = []
lines_from section depth number (raw ∷ more) =
    let line = trimmed_text raw in
    let left = outside section true [] depth line in
    let text = trimmed_text left in
    let heading = heading_in section text in
    let after = unwrap_or heading section in
    (if is_left_out depth line left text then []
    else record { number = number; section = after; is_heading = is_some heading; text = text } ∷ [])
    ++ lines_from after (depth_after section true [] depth line) (number + 1) more

-- text.lines: the lines of a text; a line ends at a line feed
abbrev pub lines_of_text : List ℕ → List Line
lines_of_text text = lines_from Prelude 0 1 (slice_split (λ c. c == 10) text)
