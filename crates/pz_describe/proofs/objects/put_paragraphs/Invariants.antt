use Rattle.std.proofs.Common.{◌≡◌, ◌++◌, drop, flat_map}
use Rattle.std.specs.List.{enumerate_from}
use Rattle.pz_describe.specs.Sections.{paragraph_tokens}
use Rattle.pz_describe.proofs.objects.put_paragraphs.Given as goal

abbrev pub invariant-loop-place : goal.invariant-loop-place
invariant-loop-place l =
    l.page ++ flat_map (paragraph_tokens l.reading l.lines) (enumerate_from l.place (drop l.place l.paragraphs))
    ≡ l.fn.page ++ flat_map (paragraph_tokens l.reading l.lines) (enumerate_from 0 l.paragraphs)
