use Rattle.std.proofs.Common.{◌≡◌, ◌≤◌, ◌++◌, [], map, drop}
use Rattle.std.specs.List.{slice_range}
use Rattle.pz_source.specs.Levels.{entries_of}
use Rattle.pz_source.proofs.levels.entries.Given as goal

abbrev pub invariant-loop-place : goal.invariant-loop-place
invariant-loop-place l = record {
  read : map (λ entry. entry.now) l.entries.items ++ entries_of (slice_range l.lines l.start l.place) (drop l.place l.lines) ≡ entries_of [] l.lines;
  within : l.start ≤ l.place;
}
