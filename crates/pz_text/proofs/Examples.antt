-- Small texts, computed by the definitions.
use Rattle.std.proofs.Common.{◌≡◌, ℕ, List, [], ◌∷◌, ◌++◌, refl}
use Rattle.std.specs.Prelude.{true, false, Some, Err, codes, map}
use Rattle.std.specs.Str.{chars}
use Rattle.pz_text.specs.Check.{lines_of, misplaced_heading}
use Rattle.pz_text.specs.Comment.{outside}
use Rattle.pz_text.specs.Cutting.{lines_of_text}
use Rattle.pz_text.specs.declared.line.Line.{Line}
use Rattle.pz_text.specs.declared.line.Section.TheVariants.{Prelude, Objects, Legend, Rules, Levels}
use Rattle.pz_base.specs.declared.fault.Code.TheVariants as code

joined : List (List ℕ) → List ℕ
joined [] = []
joined (x ∷ xs) = x ++ 10 ∷ joined xs

-- nested comments, and a closing bracket outside one
nested : outside Objects true [] 0 (codes "a(b(c)d)e)f") ≡ codes "ae)f"
nested = refl

-- a comment leaves nothing
inside_a_word : outside Legend true [] 0 (codes "Cra(x)te") ≡ codes "Crate"
inside_a_word = refl

-- a comment that began on an earlier line
begun : outside Objects true [] 2 (codes "x)y)z") ≡ codes "z"
begun = refl

-- in the prelude a comment begins only where the first word would
prelude_title : outside Prelude true [] 0 (codes "(b) title ( c") ≡ codes " title ( c"
prelude_title = refl

prelude_word : outside Prelude true [] 0 (codes "tit(le") ≡ codes "tit(le"
prelude_word = refl

-- in LEVELS what follows the first word `message` is plain text
message : outside Levels true [] 0 (codes "MESSAGE a ( b") ≡ codes "MESSAGE a ( b"
message = refl

message_glued : outside Levels true [] 0 (codes "message(hi") ≡ codes "message"
message_glued = refl

message_second : outside Levels true [] 0 (codes "a message (b") ≡ codes "a message "
message_second = refl

message_in_parts : outside Levels true [] 0 (codes "mess(x)age (b") ≡ codes "message (b"
message_in_parts = refl

-- in RULES what follows any word `message` is; a bracket, a bar, an arrow and a first plus sign are words of their own
rule_row : outside Rules true [] 0 (codes "]message (x") ≡ codes "]message (x"
rule_row = refl

rule_arrow : outside Rules true [] 0 (codes "message->(x") ≡ codes "message->(x"
rule_arrow = refl

rule_behind_arrow : outside Rules true [] 0 (codes "->message (x") ≡ codes "->message (x"
rule_behind_arrow = refl

rule_plus : outside Rules true [] 0 (codes "+message (x") ≡ codes "+message (x"
rule_plus = refl

rule_later_plus : outside Rules true [] 0 (codes "a +message (x") ≡ codes "a +message "
rule_later_plus = refl

-- in another section it isn't
legend_message : outside Legend true [] 0 (codes "message (x") ≡ codes "message "
legend_message = refl

-- void lines and lines of `=` are left out, blank ones stand, and a heading begins its section
lines : lines_of_text (joined (codes "title (" ∷ codes "===" ∷ codes " OBJECTS ( x" ∷ codes "a (" ∷ [] ∷ codes ") " ∷ codes "= =" ∷ [] ∷ codes "legend" ∷ []))
    ≡ record { number = 1; section = Prelude; is_heading = false; text = codes "title (" }
    ∷ record { number = 3; section = Objects; is_heading = true; text = codes "OBJECTS ( x" }
    ∷ record { number = 4; section = Objects; is_heading = false; text = codes "a" }
    ∷ record { number = 7; section = Objects; is_heading = false; text = codes "= =" }
    ∷ record { number = 8; section = Objects; is_heading = false; text = [] }
    ∷ record { number = 9; section = Legend; is_heading = true; text = codes "legend" }
    ∷ record { number = 10; section = Legend; is_heading = false; text = [] }
    ∷ []
unfolding joined
lines = refl

-- `objects(x)` is one plain word of the prelude, and no heading
glued_heading : map (λ (line : Line). line.is_heading) (lines_of_text (codes "objects(x)")) ≡ false ∷ []
glued_heading = refl

-- a heading that is repeated, and one that comes after a later one
repeated : misplaced_heading (lines_of_text (joined (codes "OBJECTS" ∷ codes "a" ∷ codes " Objects " ∷ []))) ≡ Some (record { code = code.Section; line = 3 })
unfolding joined
repeated = refl

late : misplaced_heading (lines_of_text (joined (codes "levels" ∷ codes "OBJECTS" ∷ []))) ≡ Some (record { code = code.Section; line = 2 })
unfolding joined
late = refl

-- the same of bytes
repeated_bytes : lines_of (joined (codes "OBJECTS" ∷ codes "a" ∷ codes "OBJECTS" ∷ [])) ≡ Err (record { code = code.Section; line = 3 })
unfolding joined chars
repeated_bytes = refl

-- a comment without an end runs to the end of the text
open_comment : lines_of (joined (codes "OBJECTS" ∷ codes "(" ∷ codes "LEGEND" ∷ [])) ≡ Err (record { code = code.Section; line = 0 })
unfolding joined chars
open_comment = refl
