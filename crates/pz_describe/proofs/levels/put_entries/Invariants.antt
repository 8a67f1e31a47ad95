use Rattle.std.proofs.Common.{◌≡◌, ◌++◌, drop, flat_map, map}
use Rattle.pz_describe.specs.Sections.{entry_tokens}
use Rattle.pz_describe.proofs.levels.put_entries.Given as goal

abbrev pub invariant-loop-entry : goal.invariant-loop-entry
invariant-loop-entry l = l.page ++ flat_map entry_tokens (map (λ entry. entry.now) (drop l.entry-index l.entries)) ≡ l.fn.page ++ flat_map entry_tokens (map (λ entry. entry.now) l.entries)
