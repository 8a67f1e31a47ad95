use Rattle.pz_level_text.proofs.Common.{◌≡◌, ◌+◌, ◌*◌, ◌<◌, ◌≤◌, ◌&&◌, ap, ap₂, sym, ◌∙◌, slice_index_or, [], has_names}
use Rattle.pz_level_text.proofs.Ordered.{other_size, same_start, named_step, same_end, same_from}
use Rattle.pz_level_text.proofs.equality.equals.Goals as goal

pub returns-then-len-cells : goal.returns-then-len-cells
returns-then-len-cells c =
    let cells : c.width.result * c.height.result ≡ c.args.level.now.grid.width * c.args.level.now.grid.height = ap₂ (λ w h. w * h) c.width.ensures.width c.height.ensures.height in
    sym (other_size c.args.game.now c.args.order c.args.level.now.grid c.args.recorded.now (λ e. c.if-len-cells.true (c.len.ensures ∙ e ∙ sym cells)))

pub loop-number-init : goal.loop-number-init
loop-number-init c =
    let cells : c.width.result * c.height.result ≡ c.args.level.now.grid.width * c.args.level.now.grid.height = ap₂ (λ w h. w * h) c.width.ensures.width c.height.ensures.height in
    record {
      size = sym c.len.ensures ∙ c.if-len-cells.false ∙ cells;
      rest = same_start c.args.game.now c.args.order c.args.level.now.grid c.args.recorded.now;
      objects = ap (λ n. n.objects) c.new-naming.ensures ∙ c.objects.ensures.objects;
      recorded = ap (λ n. n.recorded) c.new-naming.ensures;
    }

pub returns-then-not-has : goal.returns-then-not-has
returns-then-not-has c =
    let game = c.args.game.now in
    let order = c.args.order in
    let grid = c.args.level.now.grid in
    let recorded = c.args.recorded.now in
    let k = c.loop-number.number in
    let here = c.loop-number.invariant in
    let objects = c.objects_at.result in
    let cells : c.width.result * c.height.result ≡ grid.width * grid.height = ap₂ (λ w h. w * h) c.width.ensures.width c.height.ensures.height in
    let within : k < grid.width * grid.height = rw (← cells) c.loop-number-test.true in
    let step = named_step game order grid recorded k c.position-x.result.0 c.position-x.result.1 objects within here.size c.position-x.ensures.column c.position-x.ensures.row c.objects_at.ensures in
    let named : c.has.result ≡ has_names game.objects objects (slice_index_or recorded k []) = c.has.ensures.named ∙ ap₂ (λ names cells. has_names names objects (slice_index_or cells k [])) here.objects here.recorded in
    sym (sym here.rest ∙ step ∙ ap (λ b. b && same_from game order grid recorded (k + 1)) (sym named ∙ c.if-not-has.true))

pub loop-number-preserved : goal.loop-number-preserved
loop-number-preserved c =
    let game = c.args.game.now in
    let order = c.args.order in
    let grid = c.args.level.now.grid in
    let recorded = c.args.recorded.now in
    let k = c.loop-number.number in
    let here = c.loop-number.invariant in
    let objects = c.objects_at.result in
    let cells : c.width.result * c.height.result ≡ grid.width * grid.height = ap₂ (λ w h. w * h) c.width.ensures.width c.height.ensures.height in
    let within : k < grid.width * grid.height = rw (← cells) c.loop-number-test.true in
    let step = named_step game order grid recorded k c.position-x.result.0 c.position-x.result.1 objects within here.size c.position-x.ensures.column c.position-x.ensures.row c.objects_at.ensures in
    let named : c.has.result ≡ has_names game.objects objects (slice_index_or recorded k []) = c.has.ensures.named ∙ ap₂ (λ names cells. has_names names objects (slice_index_or cells k [])) here.objects here.recorded in
    record {
      size = here.size;
      rest = sym (sym here.rest ∙ step ∙ ap (λ b. b && same_from game order grid recorded (k + 1)) (sym named ∙ c.if-not-has.false));
      objects = ap (λ n. n.objects) c.has.ensures.same ∙ here.objects;
      recorded = ap (λ n. n.recorded) c.has.ensures.same ∙ here.recorded;
    }

pub returns : goal.returns
returns c =
    let grid = c.args.level.now.grid in
    let cells : c.width.result * c.height.result ≡ grid.width * grid.height = ap₂ (λ w h. w * h) c.width.ensures.width c.height.ensures.height in
    let past : grid.width * grid.height ≤ c.loop-number.number = rw (← cells) c.loop-number-test.false in
    sym (sym c.loop-number.invariant.rest ∙ same_end c.args.game.now c.args.order grid c.args.recorded.now c.loop-number.number past c.loop-number.invariant.size)
