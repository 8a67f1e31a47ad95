use Rattle.pz_turn.proofs.Common.{drop-drop, ◌≡◌, ◌+◌, ◌<◌, List, ◌∷◌, take, drop, set, length, get_or, refl, ap, sym, ◌∙◌, arith, get_or_default, take_all, length-set, Place, in_rewrite, same_size_on, combinations, applied_at, drop-set_at}
use Rattle.pz_turn.proofs.Combining.{fold-ending_more, combinations-last, ending}
use Rattle.pz_turn.proofs.applying.+apply_all.Goals as goal

pub places-preserved : goal.places-preserved
places-preserved t c =
    let others = c.in-Some.others.now in
    let n = length others in
    let items = c.items-place-items.result.now in
    let i = c.places.place-index in
    let x = get_or items i (record { x = 0; y = 0; gap = 0 }) in
    let within : n < length c.places.chosen = omega (arith, c.in-Some.ensures.cases.1, c.requires.room) in
    let rest : drop n (set c.places.chosen n x) ≡ x ∷ drop (n + 1) c.args.chosen.now = drop-set_at c.places.chosen n n x refl within ∙ ap (λ (ps : List Place). x ∷ ps) c.places.invariant.chosen in
    let more = fold-ending_more (applied_at c.args.instance.now) (in_rewrite c.args.level.now.grid c.args.changed_before) (in_rewrite c.places.level.grid c.places.changed) (drop (n + 1) c.args.chosen.now) others items i x (omega arith) (sym (get_or_default items i (record { x = 0; y = 0; gap = 0 }) x (omega arith))) c.places.invariant.so_far in
    record {
      so_far = (rw rest at c.apply_all-changed.ensures.applied) ∙ sym more;
      size = same_size_on _ _ _ c.places.invariant.size c.apply_all-changed.ensures.size;
      chosen = sym (drop-drop 1 n c.apply_all-changed.new.chosen) ∙ ap (drop 1) (c.apply_all-changed.ensures.chosen ∙ rest);
      room = c.apply_all-changed.ensures.room ∙ length-set c.places.chosen n x ∙ c.places.invariant.room;
    }

pub returns-clause-applied : goal.returns-clause-applied
returns-clause-applied t c =
    let items = c.items-place-items.result.now in
    let whole : take c.places.place-index items ≡ c.in-Some.last.now = take_all c.places.place-index items (omega arith) ∙ c.items-place-items.ensures in
    let all : combinations c.args.lists.now ≡ ending c.in-Some.others.now c.in-Some.last.now = ap combinations c.in-Some.ensures.cases.0 ∙ combinations-last c.in-Some.others.now c.in-Some.last.now in
    rw (all, ← c.in-Some.ensures.cases.1) (rw whole at c.places.invariant.so_far)
