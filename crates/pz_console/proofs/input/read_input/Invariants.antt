use Rattle.std.proofs.Common.{◌≡◌, ◌≤◌, ◌<◌, false, length}
use Rattle.std.specs.Io.KnownBytes.{Consumes}
use Rattle.pz_console.proofs.input.read_input.Given as goal

abbrev pub invariant-loop-turn : goal.invariant-loop-turn
invariant-loop-turn g l = record {
  turns : l._turn ≤ length l.bytes.items;
  size : length l.bytes.items < 16777217;
  taken : Consumes l.fn.input.remaining l.input.remaining l.bytes.items;
  called : l.input.calls ≡ l._turn;
  sound : l.input.has_failed ≡ false;
}
