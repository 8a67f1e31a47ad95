use Rattle.std.proofs.Common.{◌≡◌, drop, arith}
use Rattle.pz_record.specs.declared.input.Input.TheVariants.{Press}
use Rattle.pz_steps.specs.Left.{steps_left}
use Rattle.pz_steps.specs.Steps.{later_steps, tick_steps}
use Rattle.pz_steps.proofs.Stepping.{later_are, no_tick, ticked}
use Rattle.pz_steps.proofs.steps.Steps.advance.Goals as goal
use Rattle.pz_steps.proofs.steps.Steps.advance.Goals.{in-Press+in_ok-begin-in-Press, in-Tick+in_ok-tick-in-Tick, in_default-2, in_default}

pub returns : goal.returns
returns c = elim c.match-self.branch [
  | in-Press+in_ok-begin-in-Press w ↦
      let left : steps_left w.behind-self-inside.result w.begin.new.board ≡ later_steps (Press w.in-Press.dir) c.self.inside.board =
      later_are (Press w.in-Press.dir) w.behind-self-inside.result c.self.inside.board w.begin.new.board w.in_ok-begin-in-Press.field-0 w.ticks_after.result w.behind-self-inside.ensures w.ticks_after.ensures w.in_ok-begin-in-Press.ensures in
      grind (arith, left, w.self-is, w.self-inside-is, w.in-Press.is, c.self.view_is)
  | in-Tick+in_ok-tick-in-Tick w ↦
      let left : steps_left w.behind-self-inside-in-Tick.result w.tick.new.board ≡ drop 1 (tick_steps w.in-Tick.allowed c.self.inside.board) =
      ticked w.behind-self-inside-in-Tick.result c.self.inside.board w.tick.new.board w.in_ok-tick-in-Tick.field-0 w.in-Tick.allowed w.behind-self-inside-in-Tick.ensures w.if-allowed-gt0.true w.in_ok-tick-in-Tick.ensures in
      grind (arith, left, w.self-is, w.self-inside-is, w.in-Tick.is, c.self.view_is)
  | in_default-2 w ↦
      let none = no_tick w.in-Tick.allowed c.self.inside.board (omega (arith, w.if-allowed-gt0.false)) in
      grind (arith, none, w.self-is, w.self-inside-is, w.in-Tick.is, c.self.view_is)
  | in_default w ↦ grind (arith, w.self-is, w.self-inside-is, w.in_default.is, c.self.view_is)
]
