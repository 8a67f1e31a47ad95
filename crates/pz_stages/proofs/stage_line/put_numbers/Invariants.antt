use Rattle.std.proofs.Common.{◌≡◌, ℕ, ◌++◌, codes, decimal, drop, flat_map}
use Rattle.pz_stages.proofs.stage_line.put_numbers.Given as goal

abbrev pub invariant-loop-line : goal.invariant-loop-line
invariant-loop-line l = l.texts.items ++ flat_map (λ (line : ℕ). codes "," ++ decimal line) (drop l.line-index l.lines) ≡ l.fn.texts.items ++ flat_map (λ (line : ℕ). codes "," ++ decimal line) l.lines
