use Rattle.std.proofs.Common.{◌≡◌, ℕ, ◌+◌, ◌<◌, ◌++◌, None, Some, length, take, get_or, map, refl, arith, ap, sym, ◌∙◌}
use Rattle.json.specs.Print.{escape}
use Rattle.pz_base.specs.NameSet.{number_in}
use Rattle.pz_json_text.specs.Labels.{text_at}
use Rattle.pz_json_text.specs.CellTexts.{known_of, line_end, with_cell}
use Rattle.pz_json_text.proofs.KnownCells.{known_more}
use Rattle.pz_json_text.proofs.LabelTexts.{known_piece}
use Rattle.pz_json_text.proofs.WrittenCells.{cell_more, numbered_at, labelled}
use Rattle.pz_json_text.proofs.escaped.write_known.Goals as goal

pub cells-preserved : goal.cells-preserved
cells-preserved c =
    let texts = c.args.texts.now in
    let items = c.args.labels.now in
    let all = map (text_at texts) items in
    let k = c.cells.at.cells in
    let label : ℕ = get_or items k 0 in
    let cell = text_at texts label in
    let known = known_of (take k all) in
    let before = c.cells.invariant.written in
    let here : k < length items = omega (arith, c.cells-test.true, c.requires.stop) in
    let is = labelled texts items k here c.requires.within in
    let n = c.in-Some.number in
    let found : number_in known cell ≡ Some n = sym (numbered_at texts known c.args.numbers.now label None before.numbers is.1) ∙ c.in-Some.is in
    let parts = known_piece known cell n found in
    record {
      room = omega (arith, c.in-Some-put_number.ensures.end, c.end_line-end.ensures.end);
      onward = omega arith;
      stop = omega (arith, c.cells-test.true);
      same = known_more all k is.0 ∙ ap (with_cell known) is.2 ∙ parts.1 ∙ c.cells.invariant.same;
      written = cell_more c.args.width all texts c.cells.at c.cells.json c.args.numbers.now before cell is.0 is.2 _ c.end_line-end.new.json c.args.numbers.now refl
          (c.end_line-end.ensures.written k before.column
          ∙ ap (λ l. l ++ escape (line_end c.args.width (k + 1))) (c.in-Some-put_number.ensures.written ∙ ap (λ l. take c.cells.at.end c.cells.json ++ escape l) (sym parts.0)))
          (omega (arith, c.in-Some-put_number.ensures.end, c.end_line-end.ensures.end))
          (rw parts.1 before.numbers)
          (rw parts.1 before.known)
          (omega arith)
          (c.end_line-end.ensures.column k before.column)
          c.end_line-end.ensures.line;
    }
