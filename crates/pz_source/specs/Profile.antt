-- The profile: which keywords and words are outside it, and which options the prelude sets.
use Rattle.std.specs.Prelude.{ℕ, Bool, false, ◌||◌, if◌then◌else◌, List, [], ◌∷◌, Option, Some, None, codes}
use Rattle.std.specs.List.{list_any}
use Rattle.std.specs.Str.{bytes_eq}
use Rattle.pz_text.specs.Check.{number_of}
use Rattle.pz_base.specs.Fault.{first_fault}
use Rattle.pz_text.specs.Heading.{begins_with_word}
use Rattle.pz_text.specs.declared.line.Line.{Line}
use Rattle.pz_text.specs.declared.line.Section.{Section}
use Rattle.pz_text.specs.declared.line.Section.TheVariants.{Prelude, Rules}
use Rattle.pz_base.specs.declared.fault.Code.{Code}
use Rattle.pz_base.specs.declared.fault.Code.TheVariants as code
use Rattle.pz_base.specs.declared.fault.SourceFault.{SourceFault}
use Rattle.pz_source.specs.Rules.{rule_words}
use Rattle.pz_game.specs.declared.options.Options.{Options}

-- checks.profile: rules that choose by chance, and rigid bodies
abbrev pub is_outside_word : List ℕ → Bool
is_outside_word word = bytes_eq word (codes "random") || bytes_eq word (codes "randomdir") || bytes_eq word (codes "rigid")

-- one of the words of a rule line is outside the profile; the text after `message` is no such word
abbrev pub has_outside_word : List (List ℕ) → Bool
has_outside_word [] = false
has_outside_word (word ∷ words) =
    if bytes_eq word (codes "message") then false else is_outside_word word || has_outside_word words

-- a line of a section is outside the profile: it makes a game in real time, or is a rule line with such a word
abbrev pub is_outside : Section → List ℕ → Bool
is_outside Prelude text = begins_with_word text (codes "realtime_interval")
is_outside Rules text = has_outside_word (rule_words text)
is_outside section text = false

abbrev pub leaves_profile : List Line → Line → Option Code
leaves_profile before line = if is_outside line.section line.text then Some code.OutsideProfile else None

-- checks.profile: the first line outside the profile
abbrev pub outside_profile : List Line → Option SourceFault
outside_profile lines = first_fault number_of leaves_profile [] lines

-- one of the lines of the prelude begins with this keyword, whatever its value
abbrev pub has_keyword : List ℕ → List Line → Bool
has_keyword keyword lines = list_any (λ line. begins_with_word line.text keyword) lines

-- sections.options: the options that the lines of the prelude set
abbrev pub options_of : List Line → Options
options_of lines = record {
  run_rules_on_level_start = has_keyword (codes "run_rules_on_level_start") lines;
  require_player_movement = has_keyword (codes "require_player_movement") lines;
}
