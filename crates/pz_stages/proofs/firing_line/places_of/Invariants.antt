use Rattle.std.proofs.Common.{◌≡◌, ◌++◌, drop, flat_map}
use Rattle.pz_stages.specs.Firings.{places_text}
use Rattle.pz_stages.proofs.firing_line.places_of.Given as goal

abbrev pub invariant-loop-places : goal.invariant-loop-places
invariant-loop-places l = l.texts.items ++ flat_map places_text (drop l.places-index l.all) ≡ flat_map places_text l.all
