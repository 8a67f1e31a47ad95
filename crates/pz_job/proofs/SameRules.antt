-- Games of the same rules have the same program.
use Rattle.std.proofs.Common.{◌≡◌, ℕ, suc, List, [], ◌∷◌, Option, Some, None, Result, Ok, Err, refl, ap, subst, arith, codes, length, if◌then◌else◌}
use Rattle.std.specs.List.{All}
use Rattle.std.specs.Option.{option_map_or, option_or}
use Rattle.std.specs.Str.{bytes_eq}
use Rattle.std.proofs.lemmas.List.Elements.{All-tail}
use Rattle.pz_base.specs.NameSet.{number_in}
use Rattle.pz_base.specs.declared.fault.SourceFault.{SourceFault}
use Rattle.pz_game.specs.declared.game.GameParts.{GameParts}
use Rattle.pz_program.specs.declared.instance.Program.{Program}
use Rattle.pz_game.specs.declared.rule_line.RuleLine.{RuleLine}
use Rattle.pz_grammar.specs.Loop.{loop_word, next_loop, is_end}
use Rattle.pz_grammar.specs.Parsed.{rule_of_tokens}
use Rattle.pz_grammar.specs.Words.{rule_word, token_of, tokens_from, tokens_of}
use Rattle.pz_grammar.specs.declared.loops.LoopWord.{LoopWord}
use Rattle.pz_grammar.specs.declared.loops.LoopWord.TheVariants as loop_words
use Rattle.pz_grammar.specs.declared.rule.Rule.{Rule}
use Rattle.pz_grammar.specs.declared.token.Command.TheVariants as command
use Rattle.pz_grammar.specs.declared.token.Token.{Token}
use Rattle.pz_grammar.specs.declared.token.Token.TheVariants as token
use Rattle.pz_plan.specs.declared.fault.RuleFault.{RuleFault}
use Rattle.pz_plan.specs.declared.fault.RuleFault.TheVariants as fault
use Rattle.pz_rules.specs.Drafts.{with_loop_opened, is_misplaced, lateness, extended_by, rule_added, parsed_added, loop_added, line_added, going_on, program_from, nothing, program_of}
use Rattle.pz_rules.specs.Expansion.{expansion_of_rule}
use Rattle.pz_rules.specs.declared.draft.Draft.{Draft}
use Rattle.pz_job.specs.SameRules.{IsSameLine, AreSameLines, HaveSameRules}

-- the words of a line

module _ (names others : List (List ℕ)) where
  abbrev SameNumber : List ℕ → Type 0
  SameNumber word = number_in names word ≡ number_in others word

  token_same : (word : List ℕ) → SameNumber word → token_of names word ≡ token_of others word
  unfolding token_of
  token_same word same = ap (λ n. option_map_or (λ (t : Token). t) (rule_word word) (token.Name n)) same

  tokens_from_same : (words : List (List ℕ)) → All SameNumber words → tokens_from names words ≡ tokens_from others words
  unfolding tokens_from
  tokens_from_same [] same = refl
  tokens_from_same (word ∷ words) same =
      let first = token_same word (same 0 word (omega arith)) in
      let rest = tokens_from_same words (All-tail SameNumber word words same) in
      λ i. if bytes_eq word (codes "message") then token.Command command.Message ∷ [] else first i ∷ rest i

  tokens_same : (words : List (List ℕ)) → All SameNumber words → tokens_of names words ≡ tokens_of others words
  unfolding tokens_of
  tokens_same [] same = refl
  tokens_same (word ∷ words) same =
      let rest = tokens_from_same words (All-tail SameNumber word words same) in
      let whole = tokens_from_same (word ∷ words) same in
      λ i. if bytes_eq word (codes "+") then token.Plus ∷ rest i else whole i

  -- the lines below a line

  first_same : (line other : RuleLine) (lines more : List RuleLine) → AreSameLines names others (line ∷ lines) (other ∷ more) → IsSameLine names others line other
  first_same line other lines more same = same.each 0 line other (omega arith)

  below_same : (line other : RuleLine) (lines more : List RuleLine) → AreSameLines names others (line ∷ lines) (other ∷ more) → AreSameLines names others lines more
  below_same line other lines more same = let count = same.count in record {
    count = omega arith;
    each = λ k d e within. same.each (suc k) d e (omega arith);
  }

  next_loop_same : (lines more : List RuleLine) → AreSameLines names others lines more → next_loop lines ≡ next_loop more
  unfolding next_loop
  next_loop_same [] [] same = refl
  next_loop_same [] (other ∷ more) same = let count = same.count in absurd (omega arith)
  next_loop_same (line ∷ lines) [] same = let count = same.count in absurd (omega arith)
  next_loop_same (line ∷ lines) (other ∷ more) same =
      let words = (first_same line other lines more same).words in
      let rest = next_loop_same lines more (below_same line other lines more same) in
      λ i. option_or (loop_word (words i)) (rest i)

loop_added_same : (draft : Draft) (lines more : List RuleLine) (word : LoopWord) → next_loop lines ≡ next_loop more → loop_added draft lines word ≡ loop_added draft more word
unfolding loop_added
loop_added_same draft lines more loop_words.Start same =
    let begun : Option LoopWord → Result Draft RuleFault = λ next. if is_end next then Ok (with_loop_opened draft) else Err fault.BadRule in ap begun same
loop_added_same draft lines more loop_words.End same = refl

-- the draft with a line of these words, whether they are a loop word or a rule's
abbrev added_by : GameParts → Draft → List RuleLine → List (List ℕ) → Option LoopWord → Result Draft RuleFault
added_by game draft below words None = parsed_added game draft (length below) (rule_of_tokens (tokens_of game.names words))
added_by game draft below words (Some word) = loop_added draft below word

going_on_same : (number other : ℕ) (later more : Draft → Result Program SourceFault) (given : Result Draft RuleFault) (program : Program)
    → ((draft : Draft) → later draft ≡ Ok program → more draft ≡ Ok program)
    → going_on number later given ≡ Ok program → going_on other more given ≡ Ok program
going_on_same number other later more (Ok draft) program each is = each draft is
going_on_same number other later more (Err fault) program each is = absurd (cc)

module _ (game other : GameParts) (values : game.values ≡ other.values) (layers : game.layers ≡ other.layers) where
  rule_added_same : (draft : Draft) (below : ℕ) (rule : Rule) → rule_added game draft below rule ≡ rule_added other draft below rule
  unfolding rule_added
  rule_added_same draft below rule =
      λ i. if is_misplaced draft rule then Err fault.BadRule else extended_by draft rule (expansion_of_rule (values i) (layers i) below draft.pairs (lateness draft rule) rule)

  parsed_added_same : (draft : Draft) (below : ℕ) (rule : Option Rule) → parsed_added game draft below rule ≡ parsed_added other draft below rule
  parsed_added_same draft below None = refl
  parsed_added_same draft below (Some rule) = rule_added_same draft below rule

  added_by_same : (draft : Draft) (words : List (List ℕ)) (below others : List RuleLine) (word : Option LoopWord) → tokens_of game.names words ≡ tokens_of other.names words
      → length below ≡ length others → next_loop below ≡ next_loop others → added_by game draft below words word ≡ added_by other draft others words word
  added_by_same draft words below others None tokens count loops =
      subst (λ ts. parsed_added game draft (length below) (rule_of_tokens (tokens_of game.names words)) ≡ parsed_added other draft (length others) (rule_of_tokens ts)) tokens
      (subst (λ (n : ℕ). parsed_added game draft (length below) (rule_of_tokens (tokens_of game.names words)) ≡ parsed_added other draft n (rule_of_tokens (tokens_of game.names words))) count
      (parsed_added_same draft (length below) (rule_of_tokens (tokens_of game.names words))))
  added_by_same draft words below others (Some word) tokens count loops = loop_added_same draft below others word loops

  line_added_same : (draft : Draft) (line more : RuleLine) (below others : List RuleLine) → IsSameLine game.names other.names line more → AreSameLines game.names other.names below others
      → line_added game draft below line.words ≡ line_added other draft others more.words
  unfolding line_added
  line_added_same draft line more below others same rest =
      subst (λ words. line_added game draft below line.words ≡ line_added other draft others words) same.words
      (added_by_same draft line.words below others (loop_word line.words) (tokens_same game.names other.names line.words same.numbers) rest.count
      (next_loop_same game.names other.names below others rest))

  program_from_same : (draft : Draft) (lines more : List RuleLine) → AreSameLines game.names other.names lines more → (program : Program)
      → program_from game draft lines ≡ Ok program → program_from other draft more ≡ Ok program
  unfolding program_from
  program_from_same draft [] [] same program is = is
  program_from_same draft [] (second ∷ more) same program is = let count = same.count in absurd (omega arith)
  program_from_same draft (first ∷ lines) [] same program is = let count = same.count in absurd (omega arith)
  program_from_same draft (first ∷ lines) (second ∷ more) same program is =
      let rest = below_same game.names other.names first second lines more same in
      let added = line_added_same draft first second lines more (first_same game.names other.names first second lines more same) rest in
      subst (λ given. going_on second.number (λ d. program_from other d more) given ≡ Ok program) added
      (going_on_same first.number second.number (λ d. program_from game d lines) (λ d. program_from other d more) (line_added game draft lines first.words) program
      (λ d. program_from_same d lines more rest program) is)

-- the program of a game is that of each game of the same rules
pub same_program : (game other : GameParts) → HaveSameRules game other → (program : Program) → program_of game ≡ Ok program → program_of other ≡ Ok program
unfolding program_of
same_program game other same program is = program_from_same game other same.values same.layers nothing game.rules other.rules same.lines program is
