use Rattle.std.proofs.Common.{◌≡◌, ◌<◌, length, All}
use Rattle.pz_entries.specs.Reading.{reading}
use Rattle.pz_entries.proofs.Pieces.{so_far}
use Rattle.pz_entries.proofs.reading.read_level_text.Given as goal

abbrev pub invariant-pieces : goal.invariant-pieces
invariant-pieces l = record {
  within : All (λ place. place < length l.sets.items) l.cells.items;
  whole : so_far l.sets.items l.cells.items l.rest ≡ reading l.fn.text;
}

abbrev pub decreases-pieces : goal.decreases-pieces
decreases-pieces l = length l.rest
