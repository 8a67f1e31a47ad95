use Rattle.std.proofs.Common.{◌≡◌, ◌++◌, flat_map, length}
use Rattle.pz_stages.specs.Firings.{firing_line}
use Rattle.pz_stages.specs.Writer.{IsWriterOf}
use Rattle.pz_trace.specs.Firings.{firings_of}
use Rattle.pz_stages.proofs.firing_line.put_block_firings.Given as goal

abbrev pub invariant-firings : goal.invariant-firings
invariant-firings l = IsWriterOf l.place.board.now l.texts × (l.lines.items ++ flat_map (firing_line l.place.number l.place.tick l.place.board.now l.part) l.firings.sequence.firings ≡ l.fn.lines.items ++ flat_map (firing_line l.place.number l.place.tick l.place.board.now l.part) (firings_of l.place.board.now.game.rules l.block l.level.grid).firings)

abbrev pub decreases-firings : goal.decreases-firings
decreases-firings l = length l.firings.sequence.firings
