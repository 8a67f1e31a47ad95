use Rattle.std.proofs.Common.{◌++◌, ◌∷◌, ◌&&◌, [], map, ap, sym, ◌∙◌}
use Rattle.std.specs.List.{list_any}
use Rattle.std.proofs.lemmas.List.{map-append}
use Rattle.pz_serving.specs.AsLines.{all_told, lines_of, passed_of, pieces_in}
use Rattle.pz_serving.proofs.Lines.{more_in, told_more}
use Rattle.pz_serving.proofs.as_lines.joined.Goals as goal

pub loop-pieces-preserved : goal.loop-pieces-preserved
loop-pieces-preserved c =
    let before = map (λ pieces. pieces.items) c.loop-pieces.yielded in
    let pieces = c.in-Some.pieces.items in
    let more = ap pieces_in (map-append (λ pieces. pieces.items) c.loop-pieces.yielded (c.in-Some.pieces ∷ [])) ∙ more_in before pieces in
    record {
      texts = c.in_ok-take_in.ensures.texts ∙ ap (λ texts. texts ++ map lines_of pieces) c.loop-pieces.invariant.texts ∙ sym (map-append lines_of (pieces_in before) pieces) ∙ ap (map lines_of) (sym more);
      passed = c.in_ok-take_in.ensures.passed ∙ ap (λ passed. passed && list_any passed_of pieces) c.loop-pieces.invariant.passed ∙ sym (told_more before pieces)
          ∙ ap all_told (sym (map-append (λ pieces. pieces.items) c.loop-pieces.yielded (c.in-Some.pieces ∷ [])));
    }
