use Rattle.pz_cells.proofs.Common.{◌≡◌, ◌≢◌, ℕ, ◌<◌, ◌≤◌, ◌-◌, ◌&&◌, true, false, get_or, member, Dir, heads, IsProper}
use Rattle.pz_sets.specs.declared.set.TheConstants.{CAPACITY}
use Rattle.pz_cells.proofs.rewriting.end_leaving.Given as goal

abbrev pub invariant-leaving : goal.invariant-leaving
invariant-leaving g l = record {
  low : l.start ≤ CAPACITY;
  ended : (object : ℕ) (dir : Dir) → object < l.start → (member l.objects object && member l.removed object) ≡ true → heads l.movement (get_or l.layers.layers object 0) dir ≡ false;
  others : (layer : ℕ) (dir : Dir) → ((object : ℕ) → (member l.objects object && member l.removed object) ≡ true → get_or l.layers.layers object 0 ≢ layer) → heads l.movement layer dir ≡ heads l.initial.movement layer dir;
  proper : IsProper l.initial.movement → IsProper l.movement;
}

abbrev pub decreases-leaving : goal.decreases-leaving
decreases-leaving g l = CAPACITY - l.start
