use Rattle.std.proofs.Common.{◌≡◌, [], take, drop}
use Rattle.pz_text.specs.Check.{number_of}
use Rattle.pz_base.specs.Fault.{first_fault}
use Rattle.pz_source.specs.Profile.{leaves_profile}
use Rattle.pz_source.proofs.profile.outside_profile.Given as goal

abbrev pub invariant-loop-line : goal.invariant-loop-line
invariant-loop-line l =
    first_fault number_of leaves_profile (take l.line-index l.lines) (drop l.line-index l.lines) ≡ first_fault number_of leaves_profile [] l.lines
