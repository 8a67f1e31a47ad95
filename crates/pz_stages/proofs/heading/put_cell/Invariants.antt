use Rattle.std.proofs.Common.{◌≡◌, ℕ, ◌++◌, List, drop, flat_map}
use Rattle.std.specs.List.{enumerate_from}
use Rattle.pz_sheet.specs.Standing.{heading_at}
use Rattle.pz_stages.specs.Parts.{heading_text}
use Rattle.pz_stages.proofs.heading.put_cell.Given as goal

abbrev pub invariant-loop-number : goal.invariant-loop-number
invariant-loop-number l =
    l.texts.items ++ flat_map (λ (object : ℕ × List ℕ). heading_text l.x l.y object.1 (heading_at l.level.grid l.x l.y object.0)) (enumerate_from l.number (drop l.number l.objects))
    ≡ l.fn.texts.items ++ flat_map (λ (object : ℕ × List ℕ). heading_text l.x l.y object.1 (heading_at l.level.grid l.x l.y object.0)) (enumerate_from 0 l.objects)
