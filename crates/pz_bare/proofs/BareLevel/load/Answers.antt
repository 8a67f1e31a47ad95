use Rattle.std.proofs.Common.{◌≡◌, List, get_or, ap, sym, ◌∙◌}
use Rattle.std.proofs.lemmas.List.{get_or_default}
use Rattle.pz_game.specs.declared.level.LevelEntry.{LevelEntry}
use Rattle.pz_game.specs.declared.level.LevelEntry.TheVariants.{Message, Level}
use Rattle.pz_game.specs.Level.{entry_at}
use Rattle.pz_bare.specs.declared.AnySheet.{AnySheet}
use Rattle.pz_bare.specs.AnySheet.{state_in}
use Rattle.pz_bare.specs.Loading.{drawing_of, loaded_from}
use Rattle.pz_bare.proofs.LoadingLemmas.{playable_within}
use Rattle.pz_bare.proofs.BareLevel.load.Goals as goal

pub returns-clause-loaded : goal.returns-clause-loaded
returns-clause-loaded c =
    let game = c.args.game.now in
    let entry = c.index-levels-index.result in
    let is : entry_at game c.args.index ≡ Level c.in-Level.drawing = get_or_default game.levels c.args.index Message entry (playable_within game c.args.index c.requires) ∙ ap (λ (all : List LevelEntry). get_or all c.args.index entry) (sym c.levels.ensures.levels) ∙ sym c.index-levels-index.is ∙ c.in-Level.is in
    ap (λ (sheet : AnySheet). (state_in sheet).grid) c.in_ok-new-in-Level.ensures.ok ∙ c.in_ok-sheet-in-Level.ensures.loaded ∙ ap (λ (e : LevelEntry). loaded_from game (drawing_of e)) (sym is)
