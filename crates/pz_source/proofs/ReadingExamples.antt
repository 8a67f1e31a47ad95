-- Small sections, computed by the definitions.
use Rattle.std.proofs.Common.{◌≡◌, ℕ, suc, List, [], ◌∷◌, true, false, refl}
use Rattle.std.specs.Prelude.{Some, None, Ok, Err, codes}
use Rattle.std.specs.Char.{encode_utf8}
use Rattle.pz_text.specs.declared.line.Line.{Line}
use Rattle.pz_text.specs.declared.line.Section.{Section}
use Rattle.pz_text.specs.declared.line.Section.TheVariants.{Prelude, Objects, Wins}
use Rattle.pz_base.specs.declared.fault.Code.TheVariants as code
use Rattle.pz_names.specs.Objects.{objects_of}
use Rattle.pz_source.specs.Profile.{has_outside_word, outside_profile, options_of}
use Rattle.pz_source.specs.Rules.{rule_words}
use Rattle.pz_source.specs.Wins.{win_of, wins_of}
use Rattle.pz_game.specs.declared.win_line.Quantifier.TheVariants as quantifier

-- lines of a section, numbered
lines_at : Section → ℕ → List (List ℕ) → List Line
lines_at section number [] = []
lines_at section number (text ∷ texts) =
    record { number = number; section = section; is_heading = false; text = text } ∷ lines_at section (suc number) texts

-- brackets, bars, arrows and a first plus sign are words of their own, even without white space around them
row : rule_words (codes "[A|b]->[]") ≡ codes "[" ∷ codes "a" ∷ codes "|" ∷ codes "b" ∷ codes "]" ∷ codes "->" ∷ codes "[" ∷ codes "]" ∷ []
unfolding encode_utf8
row = refl

plus : rule_words (codes "+late a+ + ") ≡ codes "+" ∷ codes "late" ∷ codes "a+" ∷ codes "+" ∷ []
unfolding encode_utf8
plus = refl

arrow : rule_words (codes "a-->>b") ≡ codes "a-" ∷ codes "->" ∷ codes ">b" ∷ []
unfolding encode_utf8
arrow = refl

-- the text behind `message` is one word
message : rule_words (codes "]Message  [ hi ]") ≡ codes "]" ∷ codes "message" ∷ codes "[ hi ]" ∷ []
unfolding encode_utf8
message = refl

message_arrow : rule_words (codes "message->x y") ≡ codes "message" ∷ codes "->x y" ∷ []
unfolding encode_utf8
message_arrow = refl

message_alone : rule_words (codes "message ") ≡ codes "message" ∷ []
unfolding encode_utf8
message_alone = refl

-- names, colours and five rows of five; and an object without a sprite, directly behind it
objects : objects_of (lines_at Objects 3 (codes "Wall #" ∷ codes "grey" ∷ codes "00000" ∷ codes "0...0" ∷ codes "0...0" ∷ codes "0...0" ∷ codes "00000" ∷ codes "12345" ∷ codes "1" ∷ []))
    ≡ Ok (record { number = 3; names = codes "wall" ∷ codes "#" ∷ [] } ∷ record { number = 10; names = codes "12345" ∷ [] } ∷ [])
unfolding lines_at encode_utf8
objects = refl

-- no colours directly behind the name
no_colours : objects_of (lines_at Objects 3 (codes "Wall" ∷ [] ∷ codes "grey" ∷ [])) ≡ Err (record { code = code.BadObject; line = 3 })
unfolding lines_at encode_utf8
no_colours = refl

-- four sprite rows
four_rows : objects_of (lines_at Objects 3 (codes "a" ∷ codes "grey" ∷ codes "00000" ∷ codes "00000" ∷ codes "00000" ∷ codes "00000" ∷ [])) ≡ Err (record { code = code.BadObject; line = 3 })
unfolding lines_at encode_utf8
four_rows = refl

-- a name that is there already; the lesser line decides
repeated : objects_of (lines_at Objects 3 (codes "a" ∷ codes "grey" ∷ [] ∷ codes "b A" ∷ codes "grey" ∷ codes "c" ∷ [])) ≡ Err (record { code = code.Duplicate; line = 6 })
unfolding lines_at encode_utf8
repeated = refl

repeated_on_a_line : objects_of (lines_at Objects 3 (codes "a A" ∷ codes "grey" ∷ [])) ≡ Err (record { code = code.Duplicate; line = 3 })
unfolding lines_at encode_utf8
repeated_on_a_line = refl

-- words outside the profile, but for the text of a message
outside : has_outside_word (rule_words (codes "[ Random ] -> [ ]")) ≡ true
unfolding encode_utf8
outside = refl

not_in_a_text : has_outside_word (rule_words (codes "message rigid")) ≡ false
unfolding encode_utf8
not_in_a_text = refl

real_time : outside_profile (lines_at Prelude 1 (codes "title random" ∷ codes "Realtime_interval 0.5" ∷ [])) ≡ Some (record { code = code.OutsideProfile; line = 2 })
unfolding lines_at encode_utf8
real_time = refl

options : options_of (lines_at Prelude 1 (codes "run_rules_on_level_start false" ∷ codes "title require_player_movement" ∷ [])) ≡ record { run_rules_on_level_start = true; require_player_movement = false }
unfolding lines_at encode_utf8
options = refl

-- `on` is a joint by its place alone
on_as_a_name : win_of (codes "on" ∷ []) (codes "no" ∷ codes "on" ∷ []) ≡ Ok (record { quantifier = quantifier.No; subject = 0; on = None })
unfolding encode_utf8
on_as_a_name = refl

wins : wins_of (codes "a" ∷ codes "b" ∷ []) (lines_at Wins 3 (codes "ANY b on A" ∷ [] ∷ [])) ≡ Ok (record { quantifier = quantifier.Some; subject = 1; on = Some 0 } ∷ [])
unfolding lines_at encode_utf8
wins = refl

-- the lesser line decides, and on one line the form before the names
unknown_above : wins_of (codes "a" ∷ []) (lines_at Wins 3 (codes "some ghost" ∷ codes "nothing" ∷ [])) ≡ Err (record { code = code.Unknown; line = 3 })
unfolding lines_at encode_utf8
unknown_above = refl

form_first : wins_of (codes "a" ∷ []) (lines_at Wins 3 (codes "all ghost at a" ∷ [])) ≡ Err (record { code = code.BadWin; line = 3 })
unfolding lines_at encode_utf8
form_first = refl
