use Rattle.pz_grid.specs.declared.placing.Place.{Place}
use Rattle.std.proofs.Common.{◌≡◌, Ok, false, arith, ap, sym, ◌∙◌, length, List}
use Rattle.std.proofs.lemmas.Bool.Decides.{nat_tests}
use Rattle.std.proofs.lemmas.Result.{err_from_is_err_and}
use Rattle.std.specs.Prelude.{nat_lt}
use Rattle.pz_turn.specs.declared.applying.TheConstants.{COMBINATION_LIMIT}
use Rattle.pz_turn.specs.Combinations.{combinations}
use Rattle.pz_trace.proofs.Applying.{all_fire, none_fires, taking_stops, too_many}
use Rattle.pz_trace.proofs.firing_instance.fire.Goals as goal

pub returns-in_err-found-clause-fired : goal.returns-in_err-found-clause-fired
returns-in_err-found-clause-fired c =
    let p = err_from_is_err_and c.from_residual.result c.from_residual.ensures.1 in
    rw (p.1, p.2) (λ not_memory. taking_stops c.args.instance.now c.args.level.now.grid _ (c.in_err-found.ensures not_memory))

pub returns-in_default-clause-fired : goal.returns-in_default-clause-fired
returns-in_default-clause-fired c =
    none_fires c.args.instance.now c.args.level.now.grid (rw c.in_default.is at c.in_ok-found.ensures)
    ∙ ap (λ (places : List (List Place)). Ok (record { level = c.args.level.now.grid; places = places })) (sym c.new.ensures.items)

pub returns-then-combination_count-gt-COMBINATION_LIMIT-clause-fired :
    goal.returns-then-combination_count-gt-COMBINATION_LIMIT-clause-fired
returns-then-combination_count-gt-COMBINATION_LIMIT-clause-fired c = λ _.
    too_many c.args.instance.now c.args.level.now.grid c.in-Some.lists.items (rw c.in-Some.is at c.in_ok-found.ensures) (grind (arith, nat_tests, ap length (ap combinations c.deref.ensures.value)))

pub returns-clause-fired : goal.returns-clause-fired
returns-clause-fired c =
    let lists = c.in-Some.lists.items in
    let few : nat_lt COMBINATION_LIMIT (length (combinations lists)) ≡ false = grind (arith, nat_tests, ap length (ap combinations c.deref.ensures.value)) in
    all_fire c.args.instance.now c.args.level.now.grid lists (rw c.in-Some.is at c.in_ok-found.ensures) few
    ∙ ap Ok (sym (rw c.deref-2.ensures.value at c.in_ok-told.ensures.told))
