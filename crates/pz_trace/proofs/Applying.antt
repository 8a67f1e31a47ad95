-- An instance that is told does what an instance does.
use Rattle.std.proofs.Common.{◌≡◌, Bool, true, false, ◌||◌, List, [], ◌∷◌, ◌++◌, fold, length, Result, Ok, Err, refl, ap, sym, ◌∙◌, arith}
use Rattle.std.specs.Prelude.{nat_lt}
use Rattle.pz_program.specs.declared.instance.Instance.{Instance}
use Rattle.pz_sheet.specs.Grid.{Grid}
use Rattle.pz_grid.specs.declared.placing.Place.{Place}
use Rattle.pz_grid.specs.Rewriting.{Rewriting, in_rewrite}
use Rattle.pz_turn.specs.declared.applying.TheConstants.{COMBINATION_LIMIT}
use Rattle.pz_turn.specs.declared.outcome.StepFault.{StepFault}
use Rattle.pz_turn.specs.declared.outcome.StepFault.TheVariants.{MatchLimit}
use Rattle.pz_turn.specs.Combinations.{combinations}
use Rattle.pz_turn.specs.Applying.{places_of_rows, applied_at, applied_to, applied_with}
unfoldable use Rattle.pz_turn.specs.Applying.{application_of}
use Rattle.pz_turn.specs.Outcome.{Outcome, nothing_run}
use Rattle.pz_trace.proofs.Carrying.{carries_applied}
use Rattle.pz_trace.specs.Firings.{Fired, are_some, has_fired, told_if, fired_at, fired_to, fired_with}
unfoldable use Rattle.pz_trace.specs.Firings.{firing_of}

some_more : (told : List (List Place)) (changed : Bool) (places : List Place) → are_some (told ++ told_if changed places) ≡ (are_some told || changed)
some_more [] true places = refl
some_more [] false places = refl
some_more (first ∷ told) changed places = refl

abbrev in_rewriting : Fired → Rewriting
in_rewriting firing_of = in_rewrite firing_of.level (has_fired firing_of)

fired_fold : (instance : Instance) (all : List (List Place)) (so_far : Fired) → fold (applied_at instance) (in_rewriting so_far) all ≡ in_rewriting (fold (fired_at instance) so_far all)
fired_fold instance [] so_far = refl
fired_fold instance (places ∷ more) so_far =
    let next = applied_at instance (in_rewrite so_far.level false) places in
    ap (λ (r : Rewriting). fold (applied_at instance) r more) (carries_applied instance so_far.level (has_fired so_far) places ∙ ap (in_rewrite next.grid) (sym (some_more so_far.places next.changed places)))
    ∙ fired_fold instance more (fired_at instance so_far places)

-- the same level, a change exactly if it fired, and the same stop
abbrev pub Agrees : Result (Outcome Grid) StepFault → Result Fired StepFault → Type 0
Agrees (Err fault) (Err other) = fault ≡ other
Agrees (Ok gave) (Ok firing_of) = (gave.level ≡ firing_of.level) × (gave.changed ≡ has_fired firing_of)
Agrees (Err fault) (Ok firing_of) = ⊥
Agrees (Ok gave) (Err fault) = ⊥

agrees_to : (instance : Instance) (grid : Grid) (all : List (List Place)) → Agrees (applied_to instance grid all) (fired_to instance grid all)
agrees_to instance grid all =
    let both = fired_fold instance all (record { level = grid; places = [] }) in
    grind (arith, both)

agrees_with : (instance : Instance) (grid : Grid) (found : Result (List (List Place)) StepFault) → Agrees (applied_with instance grid found) (fired_with instance grid found)
agrees_with instance grid (Err fault) = refl
agrees_with instance grid (Ok lists) = agrees_to instance grid (combinations lists)

pub agrees : (instance : Instance) (grid : Grid) → Agrees (application_of instance grid) (firing_of instance grid)
unfolding application_of firing_of
agrees instance grid = agrees_with instance grid (places_of_rows grid instance.scan instance.left)

none_are : (grid : Grid) (gave : Result Fired StepFault) → Agrees (Ok (nothing_run grid)) gave → gave ≡ Ok (record { level = grid; places = [] })
none_are grid (Err fault) agree = absurd agree
none_are grid (Ok gave) agree = grind (arith, agree, no_places gave.places) where
  no_places : (places : List (List Place)) → false ≡ are_some places → places ≡ []
  no_places [] none = refl
  no_places (first ∷ more) none = absurd cc

-- an instance that leaves the level untouched doesn't fire
pub none_fires : (instance : Instance) (grid : Grid) → application_of instance grid ≡ Ok (nothing_run grid) → firing_of instance grid ≡ Ok (record { level = grid; places = [] })
none_fires instance grid is =
    let known : Agrees (application_of instance grid) (firing_of instance grid) = agrees instance grid in
    none_are grid (firing_of instance grid) (rw is at known)

-- it fires at these combinations
pub all_fire : (instance : Instance) (grid : Grid) (lists : List (List Place)) → places_of_rows grid instance.scan instance.left ≡ Ok lists → nat_lt COMBINATION_LIMIT (length (combinations lists)) ≡ false
    → firing_of instance grid ≡ Ok (fold (fired_at instance) (record { level = grid; places = [] }) (combinations lists))
unfolding firing_of
all_fire instance grid lists takes few = grind (arith, takes, few)

-- too many of them are a stop
pub too_many : (instance : Instance) (grid : Grid) (lists : List (List Place)) → places_of_rows grid instance.scan instance.left ≡ Ok lists → nat_lt COMBINATION_LIMIT (length (combinations lists)) ≡ true → firing_of instance grid ≡ Err MatchLimit
unfolding firing_of
too_many instance grid lists takes many = grind (arith, takes, many)

pub taking_stops : (instance : Instance) (grid : Grid) (fault : StepFault) → places_of_rows grid instance.scan instance.left ≡ Err fault → firing_of instance grid ≡ Err fault
unfolding firing_of
taking_stops instance grid fault stops = ap (fired_with instance grid) stops
