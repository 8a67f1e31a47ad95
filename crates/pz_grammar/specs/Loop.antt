-- The lines of loops.
use Rattle.std.specs.Prelude.{ℕ, Bool, true, false, List, [], ◌∷◌, Option, Some, None, codes, if◌then◌else◌}
use Rattle.std.specs.Option.{option_or}
use Rattle.std.specs.Str.{bytes_eq}
use Rattle.pz_game.specs.declared.rule_line.RuleLine.{RuleLine}
use Rattle.pz_grammar.specs.declared.loops.LoopWord.{LoopWord}
use Rattle.pz_grammar.specs.declared.loops.LoopWord.TheVariants.{Start, End}

-- rules.loop-lines: a loop line is exactly one loop word
unfoldable pub loop_word : List (List ℕ) → Option LoopWord
loop_word (word ∷ []) =
    if bytes_eq word (codes "startloop") then Some Start else (if bytes_eq word (codes "endloop") then Some End else None)
loop_word _ = None

-- the first loop word of lines
unfoldable pub next_loop : List RuleLine → Option LoopWord
next_loop [] = None
next_loop (line ∷ lines) = option_or (loop_word line.words) (next_loop lines)

abbrev pub is_end : Option LoopWord → Bool
is_end (Some End) = true
is_end _ = false
