use Rattle.std.proofs.Common.{◌≡◌, ◌-◌, ◌++◌, length}
use Rattle.pz_names.specs.Objects.{paragraphs_within, paragraphs_of}
use Rattle.pz_names.proofs.objects.paragraphs_of.Given as goal

abbrev pub invariant-loop-step : goal.invariant-loop-step
invariant-loop-step l = l.found.items ++ paragraphs_within (length l.lines - l._step) l.rest ≡ paragraphs_of l.lines
