use Rattle.std.proofs.Common.{◌≡◌, drop, fold, map}
use Rattle.pz_json_text.specs.CellTexts.{with_cell}
use Rattle.pz_describe.proofs.recordings.add_sources.Given as goal

abbrev pub invariant-loop-entry : goal.invariant-loop-entry
invariant-loop-entry l = fold with_cell l.sources (map (λ entry. entry.source) (drop l.entry-index l.entries)) ≡ fold with_cell l.fn.sources (map (λ entry. entry.source) l.entries)
