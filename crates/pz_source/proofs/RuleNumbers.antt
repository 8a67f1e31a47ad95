-- The rule lines of a game have the numbers of lines of its text.
use Rattle.std.proofs.Common.{◌≡◌, ℕ, ◌≤◌, not, List, Option, Some, None, Result, Ok, Err, filter, subst}
use Rattle.std.specs.Prelude.{IfOk}
use Rattle.std.specs.List.{All}
use Rattle.std.specs.Str.{chars}
use Rattle.std.proofs.lemmas.List.Elements.{All-map, All-filter}
use Rattle.pz_text.specs.Check.{lines_of}
use Rattle.pz_base.specs.Fault.{unless, and_then}
use Rattle.pz_text.specs.Section.{lines_in}
use Rattle.pz_text.specs.declared.line.Line.{Line}
use Rattle.pz_text.specs.declared.line.Section.TheVariants as section
use Rattle.pz_base.specs.declared.fault.SourceFault.{SourceFault}
use Rattle.pz_names.specs.Denotation.{values_of}
use Rattle.pz_game.specs.declared.game.GameParts.{GameParts}
use Rattle.pz_source.specs.Layers.{fault_of_layers}
use Rattle.pz_names.specs.Legend.{definitions_of}
use Rattle.pz_source.specs.Levels.{glyph_of, levels_of}
use Rattle.pz_source.specs.Missing.{fault_of_needs}
use Rattle.pz_names.specs.Objects.{is_blank, objects_of}
use Rattle.pz_source.specs.Profile.{outside_profile}
use Rattle.pz_source.specs.Reading.{line_count, game_over, game_of_objects, game_of_lines, source_of}
use Rattle.pz_source.specs.Rules.{rule_line_of, rule_lines}
use Rattle.pz_names.specs.Values.{names_of_source, meanings_of_source, fault_of_legend}
use Rattle.pz_source.specs.Wins.{wins_of}
use Rattle.pz_game.specs.declared.denotation.Denotation.{Denotation}
use Rattle.pz_game.specs.declared.level.LevelEntry.{LevelEntry}
use Rattle.pz_names.specs.declared.name_line.NameLine.{NameLine}
use Rattle.pz_game.specs.declared.rule_line.RuleLine.{RuleLine}
use Rattle.pz_game.specs.declared.win_line.WinLine.{WinLine}
use Rattle.pz_source.proofs.LineLemmas.{lines_in-all, unless-ok, any-ok, and_then-ok, cut-numbered, lines-all}

module _ (P : ℕ → Type 0) where
  abbrev Reads : Line → Type 0
  Reads line = P line.number

  abbrev Rules : GameParts → Type 0
  Rules game = All (λ line. P line.number) game.rules

  rules-numbered : (lines : List Line) → All Reads lines → All (λ line. P line.number) (rule_lines (lines_in section.Rules lines))
  rules-numbered lines all =
      let part = lines_in section.Rules lines in
      let kept = filter (λ line. not (is_blank line)) part in
      All-map (λ (line : RuleLine). P line.number) rule_line_of kept (All-filter (λ line. not (is_blank line)) Reads part (lines_in-all Reads section.Rules lines all))

  game_over-rules : (lines : List Line) (objects : List NameLine) (names : List (List ℕ)) (values : List Denotation) → All Reads lines → IfOk (game_over lines objects names values) Rules
  game_over-rules lines objects names values all =
      by (fault_of_needs names values) (fault_of_layers objects names values (lines_in section.Layers lines)) (wins_of names (lines_in section.Wins lines))
      (levels_of (glyph_of names values) (lines_in section.Levels lines)) _ (λ wins entries. rules-numbered lines all)
    where
      by : (needs layers : Option SourceFault) (wins : Result (List WinLine) SourceFault) (levels : Result (List LevelEntry) SourceFault) (made : List WinLine → List LevelEntry → GameParts)
          → ((ws : List WinLine) (es : List LevelEntry) → Rules (made ws es)) → IfOk (unless needs (unless layers (and_then (λ ws. and_then (λ es. Ok (made ws es)) levels) wins))) Rules
      by (Some fault) layers wins levels made each = tt
      by None (Some fault) wins levels made each = tt
      by None None (Err fault) levels made each = tt
      by None None (Ok ws) (Err fault) made each = tt
      by None None (Ok ws) (Ok es) made each = each ws es

  game_of_objects-rules : (lines : List Line) (objects : List NameLine) → All Reads lines → IfOk (game_of_objects lines objects) Rules
  game_of_objects-rules lines objects all =
      let definitions = definitions_of (lines_in section.Legend lines) in
      let names = names_of_source objects definitions in
      let values = values_of (meanings_of_source objects definitions) in
      unless-ok Rules (fault_of_legend objects (lines_in section.Legend lines)) (game_over lines objects names values) (game_over-rules lines objects names values all)

  game_of_lines-rules : (lines : List Line) → All Reads lines → IfOk (game_of_lines lines) Rules
  game_of_lines-rules lines all =
      let objects = objects_of (lines_in section.Objects lines) in
      unless-ok Rules (outside_profile lines) (and_then (game_of_objects lines) objects)
      (and_then-ok (λ _. Unit {0}) Rules (game_of_objects lines) objects (any-ok objects) (λ os read. game_of_objects-rules lines os all))

-- a rule line has the number of a line, counted from 1
abbrev IsRuled : List ℕ → GameParts → Type 0
IsRuled text game = All (λ line. 1 ≤ line.number × line.number ≤ line_count text) game.rules

source-ruled : (text : List ℕ) → IfOk (source_of text) (IsRuled text)
unfolding source_of
source-ruled text =
    let P : ℕ → Type 0 = λ k. 1 ≤ k × k ≤ line_count text in
    and_then-ok (All (Reads P)) (IsRuled text) game_of_lines (lines_of text) (lines-all (Reads P) text (cut-numbered P (chars text) (λ k above below. (above, below)))) (λ lines all. game_of_lines-rules P lines all)

pub result-ruled : {E : Type 0} (text : List ℕ) (r : Result GameParts E) → IfOk r (λ game. source_of text ≡ Ok game) → IfOk r (IsRuled text)
result-ruled text (Ok game) read = subst (λ s. IfOk s (IsRuled text)) read (source-ruled text)
result-ruled text (Err e) read = tt
