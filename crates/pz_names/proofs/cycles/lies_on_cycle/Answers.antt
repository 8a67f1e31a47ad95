use Rattle.std.proofs.Common.{◌≡◌, ◌≢◌, Bor, true, length, sym, ◌∙◌}
use Rattle.std.specs.Prelude.{Option, None, Some, is_some, option_copied}
use Rattle.pz_names.specs.Denotation.{value_at}
use Rattle.pz_game.specs.declared.denotation.Denotation.{Denotation}
use Rattle.pz_names.proofs.QuickLemmas.{valued-off_cycle}
use Rattle.pz_names.proofs.cycles.lies_on_cycle.Goals as goal

some_copied : (o : Option (Bor Denotation)) → true ≡ is_some o → option_copied o ≢ None
some_copied None e = cc
some_copied (Some d) e = λ none. cc

pub returns-then-is_some : goal.returns-then-is_some
returns-then-is_some c =
    let meanings = c.args.meanings.now in
    let number = c.args.number in
    let known : option_copied c.entry.result ≡ value_at (length meanings) meanings number = c.entry.ensures ∙ c.requires.known number in
    sym (valued-off_cycle meanings (length meanings) number (λ none. some_copied c.entry.result c.if-is_some.ensures (known ∙ none)))
