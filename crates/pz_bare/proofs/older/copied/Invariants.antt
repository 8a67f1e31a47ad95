use Rattle.std.proofs.Common.{◌≡◌, ◌++◌, map}
use Rattle.std.specs.Prelude.{drop}
use Rattle.pz_bare.specs.Past.{kept_in}
use Rattle.pz_bare.proofs.older.copied.Given as goal

-- the copies so far, and then the ways that are left, keep what all ways keep
abbrev pub invariant-loop-way : goal.invariant-loop-way
invariant-loop-way l = map kept_in l.copies.items ++ map kept_in (drop l.way-index l.ways) ≡ map kept_in l.ways
