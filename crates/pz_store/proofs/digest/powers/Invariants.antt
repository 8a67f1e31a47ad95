use Rattle.std.proofs.Common.{◌≡◌, length}
use Rattle.pz_store.specs.Digest.{power_of}
use Rattle.pz_store.proofs.Digesting.{PowersFrom}
use Rattle.pz_store.proofs.digest.powers.Given as goal

-- the last powers are there, as many as words were counted
abbrev pub invariant-loop-behind : goal.invariant-loop-behind
invariant-loop-behind l = record {
  long : length l.powers.items ≡ l.count;
  power : l.power ≡ power_of l.behind;
  each : PowersFrom l.count l.behind l.powers.items;
}
