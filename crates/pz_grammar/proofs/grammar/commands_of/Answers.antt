use Rattle.std.proofs.Common.{◌≡◌, ◌<◌, ◌+◌, ◌++◌, List, [], ◌∷◌, length, drop, map, Option, Some, None, option_map, refl, ap, sym, ◌∙◌, append_assoc, arith}
use Rattle.std.specs.Prelude.{option_and_then}
use Rattle.std.proofs.lemmas.List.{at_drop_more}
use Rattle.pz_base.specs.Each.{all_some}
use Rattle.pz_grammar.specs.declared.token.Command.{Command}
use Rattle.pz_grammar.specs.declared.token.Token.{Token}
use Rattle.pz_grammar.specs.Parsed.{command_of, commands_of}
use Rattle.pz_grammar.proofs.grammar.commands_of.Goals as goal

-- a token before others, by what it is as a command
begun : (t : Token) (ts : List Token) (o : Option Command) → command_of t ≡ o → commands_of (t ∷ ts) ≡ option_and_then (λ c. option_map (λ more. c ∷ more) (commands_of ts)) o
unfolding commands_of
begun t ts o e = ap (option_and_then (λ c. option_map (λ more. c ∷ more) (all_some (map command_of ts)))) e

kept : (done : List Command) (c : Command) (o : Option (List Command)) → option_map (λ more. (done ++ c ∷ []) ++ more) o ≡ option_map (λ more. done ++ more) (option_map (λ more. c ∷ more) o)
kept done c None = refl
kept done c (Some more) = ap Some (append_assoc done (c ∷ []) more)

pub loop-token-preserved : goal.loop-token-preserved
loop-token-preserved c =
    let tokens = c.args.tokens.now in
    let i = c.loop-token.token-index in
    let done = c.loop-token.commands.items in
    let command = c.in-Some.command in
    let rest = commands_of (drop (i + 1) tokens) in
    let in_range : i < length tokens = omega arith in
    let step = at_drop_more commands_of tokens i _ in_range ∙ begun _ (drop (i + 1) tokens) (Some command) (sym c.command_of.ensures ∙ c.in-Some.is) in
    ap (λ (l : List Command). option_map (λ more. l ++ more) rest) c.in_ok-push.ensures.items
    ∙ (kept done command rest ∙ (ap (option_map (λ more. done ++ more)) (sym step) ∙ c.loop-token.invariant))
