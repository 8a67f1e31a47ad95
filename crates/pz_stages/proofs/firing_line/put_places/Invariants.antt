use Rattle.std.proofs.Common.{◌≡◌, ◌++◌, drop, flat_map}
use Rattle.pz_stages.specs.Firings.{place_text}
use Rattle.pz_stages.proofs.firing_line.put_places.Given as goal

abbrev pub invariant-loop-place : goal.invariant-loop-place
invariant-loop-place l = l.inner.items ++ flat_map place_text (drop l.place-index l.places) ≡ flat_map place_text l.places
