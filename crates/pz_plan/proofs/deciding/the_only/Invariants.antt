use Rattle.std.proofs.Common.{◌≡◌, ◌++◌, drop}
use Rattle.std.specs.List.{enumerate_from}
use Rattle.std.specs.Option.{option_to_list}
use Rattle.pz_plan.specs.Deciding.{only_element, numbers_of, fits_within}
use Rattle.pz_plan.proofs.deciding.the_only.Given as goal

abbrev pub invariant-loop-number : goal.invariant-loop-number
invariant-loop-number l =
    only_element (option_to_list l.found ++ numbers_of (fits_within l.wanted l.within) (enumerate_from l.number (drop l.number l.choices))) ≡ only_element (numbers_of (fits_within l.wanted l.within) (enumerate_from 0 l.choices))
