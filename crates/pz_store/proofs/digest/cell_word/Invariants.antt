use Rattle.std.proofs.Common.{◌≡◌}
use Rattle.pz_sheet.specs.Presence.{cell_of}
use Rattle.pz_store.specs.Digest.{cell_word}
use Rattle.pz_store.proofs.digest.cell_word.Given as goal

-- the bits of the objects so far
abbrev pub invariant-loop-object : goal.invariant-loop-object
invariant-loop-object l = l.word ≡ cell_word l.object (cell_of l.level.grid l.index)
