use Rattle.std.proofs.Common.{◌≡◌, ℕ, ◌<◌, true}
use Rattle.pz_sets.specs.Sets.{in_word}
use Rattle.pz_planes.specs.Planes.{AreChanged, toggled_note}
use Rattle.pz_planes.proofs.ToggleLemmas.{done}
use Rattle.pz_planes.proofs.planes.Planes.toggle_word.Given as goal

abbrev pub invariant-objects : goal.invariant-objects
invariant-objects l = record {
  changed : AreChanged l.initial.self l.self l.x l.y (λ object was. toggled_note (done l.index l.word l.rest object) was);
  left : (bit : ℕ) → bit < 128 → in_word l.rest bit ≡ true → in_word l.word bit ≡ true;
}

abbrev pub decreases-objects : goal.decreases-objects
decreases-objects l = l.rest
