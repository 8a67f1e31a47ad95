use Rattle.std.proofs.Common.{◌≡◌, ℕ, [], take, drop}
use Rattle.std.specs.Prelude.{nat_lt}
use Rattle.std.specs.List.{list_any}
use Rattle.pz_base.specs.Fault.{first_fault}
use Rattle.pz_text.specs.Check.{number_of, misplaces, reaches_place}
use Rattle.pz_text.proofs.check.misplaced_heading.Given as goal

abbrev pub invariant-loop-line : goal.invariant-loop-line
invariant-loop-line l = record {
  none_yet : first_fault number_of misplaces (take l.line-index l.lines) (drop l.line-index l.lines) ≡ first_fault number_of misplaces [] l.lines;
  least : (place : ℕ) → list_any (reaches_place place) (take l.line-index l.lines) ≡ nat_lt place l.least;
}
