-- The word `message` of a rule line.
use Rattle.std.proofs.Common.{◌≡◌, ◌≤◌, ℕ, Bool, true, false, ◌&&◌, ◌||◌, ◌==◌, List, length, map, refl, ap, sym, ◌∙◌, arith}
use Rattle.std.specs.Prelude.{codes}
use Rattle.std.specs.Char.{is_whitespace, to_ascii_lowercase}
use Rattle.std.proofs.lemmas.List.{length-map}
use Rattle.std.proofs.lemmas.Slice.Eq.{bytes_eq-Decides}
use Rattle.pz_text.specs.Characters.{is_word}
use Rattle.pz_text.specs.Comment.{is_bracket, ends_message}

-- a keyword is as long as the characters that spell it
length-word : (cs word : List ℕ) → is_word cs word ≡ true → length cs ≡ length word
length-word cs word e = sym (length-map cs to_ascii_lowercase) ∙ ap length ((bytes_eq-Decides (map to_ascii_lowercase cs) word).0 e)

pub ends_message-long : (word : List ℕ) (c : ℕ) → ends_message word c ≡ true → 7 ≤ length word
ends_message-long word c e = by (is_word word (codes "message")) refl (is_word word (codes "message-")) refl e
  where
    by : (a : Bool) → is_word word (codes "message") ≡ a → (b : Bool) → is_word word (codes "message-") ≡ b
        → ((a && (is_whitespace c || is_bracket c)) || (b && c == 62)) ≡ true → 7 ≤ length word
    by true e b f h = omega (arith, length-word word (codes "message") e)
    by false e true f h = omega (arith, length-word word (codes "message-") f)
    by false e false f h = absurd (cc)
