use Rattle.std.proofs.Common.{◌≡◌, ap, sym, ◌∙◌, List}
use Rattle.std.specs.Prelude.{Ok, Err}
use Rattle.pz_game.specs.declared.denotation.Denotation.{Denotation}
use Rattle.pz_game.specs.declared.game.GameParts.{GameParts}
use Rattle.pz_source.specs.Reading.{game_over, game_with}
use Rattle.pz_source.proofs.reading.read_over.Goals as goal

pub returns-in-Err : goal.returns-in-Err
returns-in-Err c =
    let over = λ (values : List Denotation). game_over c.args.lines.now c.args.objects.now c.args.names values in
    let refused : Err c.in-Err.fault ≡ over c.as_slice.result.now = rw c.in-Err.is at c.in_ok-found.ensures.read in
    refused ∙ ap over c.as_slice.ensures.value

pub returns : goal.returns
returns c =
    let over = λ (values : List Denotation). game_over c.args.lines.now c.args.objects.now c.args.names values in
    let read : Ok (game_with c.args.names c.as_slice.result.now c.in-Ok.found) ≡ over c.as_slice.result.now = rw c.in-Ok.is at c.in_ok-found.ensures.read in
    let made : Ok c.new.result ≡ Ok (game_with c.args.names c.as_slice.result.now c.in-Ok.found) =
    ap (λ (game : GameParts). Ok game) (c.new.ensures ∙ (c.game_with.ensures ∙ ap (λ (values : List Denotation). game_with c.args.names values c.in-Ok.found) (sym c.as_slice.ensures.value))) in
    made ∙ (read ∙ ap over c.as_slice.ensures.value)
