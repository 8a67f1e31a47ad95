use Rattle.pz_level_text.proofs.Common.{common_steps, ◌≡◌, ◌<◌, ◌*◌, ◌++◌, ◌∷◌, [], length, get_or, arith, ap, ap₂, sym, ◌∙◌, take_more, take_all, GameParts, Order, set_of, text_at, WriterView, TableView, texts_in, standing_names, text_of_names, column_of, row_of}
use Rattle.pz_level_text.proofs.Ordered.{text_at_number, length-texts_in}
use Rattle.pz_level_text.proofs.cell_labels.CellLabels.look_at_all.Goals as goal

pub loop-number-preserved : goal.loop-number-preserved
loop-number-preserved c =
    let game = c.args.self.now.table.game in
    let order = c.args.self.now.order in
    let grid = c.args.level.now.grid in
    let n = c.loop-number.number in
    let x = c.position-x.result.0 in
    let y = c.position-x.result.1 in
    let texts = texts_in game order grid in
    let all : c.width.result * c.height.result ≡ grid.width * grid.height = ap₂ (λ w h. w * h) c.width.ensures.width c.height.ensures.height in
    let within : n < grid.width * grid.height = rw (← all) c.loop-number-test.true in
    let kept : c.self.inside.order ≡ order = ap (λ (s : WriterView). s.order) c.self.view_is ∙ c.loop-number.invariant.order in
    let column : x ≡ column_of order grid n = c.position-x.ensures.column ∙ ap (λ (o : Order). column_of o grid n) kept in
    let row : y ≡ row_of order grid n = c.position-x.ensures.row ∙ ap (λ (o : Order). row_of o grid n) kept in
    let before = c.label_at.ensures.cells ∙ c.loop-number.invariant.cells in
    let text : text_at c.label_at.new.self.table.texts c.in_ok-label.label ≡ get_or texts n [] =
    c.in_ok-label.ensures.text ∙ (ap (λ (g : GameParts). text_of_names (set_of (standing_names g.objects grid (x, y)))) c.loop-number.invariant.game ∙ sym (text_at_number game order grid n x y within column row)) in
    let here : n < length texts = omega (arith, within, length-texts_in game order grid) in
    record {
      cells = c.in_ok-push.ensures.cells ∙ ((λ i. before i ++ text i ∷ []) ∙ sym (take_more texts n [] here));
      game = ap (λ (t : TableView). t.game) c.push.ensures.table ∙ (c.label_at.ensures.game ∙ c.loop-number.invariant.game);
      order = c.push.ensures.order ∙ (c.label_at.ensures.order ∙ c.loop-number.invariant.order);
    }

pub returns-clause-cells : goal.returns-clause-cells
returns-clause-cells c = grind (arith, common_steps, length-texts_in, take_all)
