use Rattle.pz_sheet.proofs.Common.{◌≡◌, ℕ, ◌+◌, ◌*◌, arith, ap, sym, ◌∙◌, subst, Grid, BareState, pushed_at}
use Rattle.pz_sheet.proofs.PushLemmas.{ArePushedTo, pushed_on, pushed_as, pushed_row, passed_row}
use Rattle.pz_sheet.proofs.Sheet.push_all.Goals as goal
use Rattle.pz_sheet.proofs.Sheet.push_all.Goals.{then-may_stand_in_row+else-loop-x-test, else-may_stand_in_row}

pub loop-x-preserved : goal.loop-x-preserved
loop-x-preserved g c = λ old before.
    let players = c.args.players.now in
    let dir = c.args.dir in
    let here = c.loop-y.y * old.width + c.loop-x.x in
    let is = c.loop-x.invariant old before in
    let at : c.index.result ≡ here = c.index.ensures.index ∙ ap (λ (grid : Grid). c.loop-y.y * grid.width + c.loop-x.x) is in
    let pushed = c.push_at.ensures ∙ ap (λ (index : ℕ). pushed_at players dir index c.loop-x.self.grid) at in
    pushed_as players dir (here + 1) _ old c.push_at.new.self.grid (omega arith) (pushed_on players dir here old c.loop-x.self.grid c.push_at.new.self.grid (omega (arith, c.index.ensures.within, at)) is pushed)

pub loop-y-preserved : goal.loop-y-preserved
loop-y-preserved g c =
    let players = c.args.players.now in
    let dir = c.args.dir in
    let old = c.args.self.now.grid in
    let before = c.loop-y.invariant in
    elim c.if-may_stand_in_row.branch as (λ x. ArePushedTo players dir ((c.loop-y.y + 1) * old.width) old c.if-may_stand_in_row.self.grid) [
      | then-may_stand_in_row+else-loop-x-test w ↦ subst (λ (s : BareState). ArePushedTo players dir ((c.loop-y.y + 1) * old.width) old s.grid) (sym w.self-is)
          (pushed_row players dir c.loop-y.y w.loop-x.x old w.loop-x.self.grid (omega (arith, w.loop-x.auto.x-end, w.loop-x-test.false, w.width-x-end.ensures.width, ap (λ (grid : Grid). grid.width) before)) (w.loop-x.invariant old before))
      | else-may_stand_in_row w ↦ subst (λ (s : BareState). ArePushedTo players dir ((c.loop-y.y + 1) * old.width) old s.grid) (sym w.self-is)
          (passed_row players dir c.loop-y.y old c.loop-y.self.grid c.height-y-end.ensures.lawful.covers (omega (arith, c.loop-y-test.true, c.height-y-end.ensures.height)) (c.may_stand_in_row.ensures w.if-may_stand_in_row.false) before)
    ]
