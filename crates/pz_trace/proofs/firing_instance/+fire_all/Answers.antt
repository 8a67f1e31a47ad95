use Rattle.std.proofs.Common.{◌≡◌, ◌+◌, ◌<◌, List, ◌∷◌, take, drop, set, length, get_or, refl, ap, sym, ◌∙◌, arith}
use Rattle.std.proofs.lemmas.Grind.{drop-set_at}
use Rattle.std.proofs.lemmas.List.{drop-drop, get_or_default, take_all, length-set}
use Rattle.pz_grid.proofs.MovementLemmas.{same_size_on}
use Rattle.pz_grid.specs.declared.placing.Place.{Place}
use Rattle.pz_turn.specs.Combinations.{combinations}
use Rattle.pz_turn.proofs.Combining.{fold-ending_more, combinations-last, ending}
use Rattle.pz_trace.specs.Firings.{fired_at}
use Rattle.pz_trace.proofs.firing_instance.+fire_all.Goals as goal

pub places-preserved : goal.places-preserved
places-preserved t c =
    let others = c.in-Some.others.now in
    let n = length others in
    let items = c.items-place-items.result.now in
    let i = c.places.place-index in
    let x = get_or items i (record { x = 0; y = 0; gap = 0 }) in
    let within : n < length c.places.chosen = omega (arith, c.in-Some.ensures.cases.1, c.requires.room) in
    let rest : drop n (set c.places.chosen n x) ≡ x ∷ drop (n + 1) c.args.chosen.now = drop-set_at c.places.chosen n n x refl within ∙ ap (λ (ps : List Place). x ∷ ps) c.places.invariant.chosen in
    let more = fold-ending_more (fired_at c.args.instance.now) (record { level = c.args.level.now.grid; places = c.args.told.now.items }) (record { level = c.places.level.grid; places = c.places.told.items }) (drop (n + 1) c.args.chosen.now) others items i x (omega arith) (sym (get_or_default items i (record { x = 0; y = 0; gap = 0 }) x (omega arith))) c.places.invariant.so_far in
    record {
      so_far = (rw rest at c.in_ok-fire_all.ensures.told) ∙ sym more;
      size = same_size_on _ _ _ c.places.invariant.size c.in_ok-fire_all.ensures.size;
      chosen = sym (drop-drop 1 n c.fire_all.new.chosen) ∙ ap (drop 1) (c.in_ok-fire_all.ensures.chosen ∙ rest);
      room = c.in_ok-fire_all.ensures.room ∙ length-set c.places.chosen n x ∙ c.places.invariant.room;
    }

pub returns-clause-told : goal.returns-clause-told
returns-clause-told t c =
    let items = c.items-place-items.result.now in
    let whole : take c.places.place-index items ≡ c.in-Some.last.now = take_all c.places.place-index items (omega arith) ∙ c.items-place-items.ensures in
    let all : combinations c.args.lists.now ≡ ending c.in-Some.others.now c.in-Some.last.now = ap combinations c.in-Some.ensures.cases.0 ∙ combinations-last c.in-Some.others.now c.in-Some.last.now in
    rw (all, ← c.in-Some.ensures.cases.1) (rw whole at c.places.invariant.so_far)
