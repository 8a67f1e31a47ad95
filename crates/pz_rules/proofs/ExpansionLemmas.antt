-- Considering picks one by one gives the instances of a plan.
use Rattle.std.proofs.Common.{◌≡◌, ℕ, ◌+◌, ◌<◌, cond, List, [], ◌∷◌, ◌++◌, filter, map, fold, take, length, get_or, refl, ap, sym, ◌∙◌, ⊎_elim}
use Rattle.std.proofs.lemmas.Bool.{cases_Bool, cond-true, cond-false}
use Rattle.std.proofs.lemmas.List.{take_more, append-nil}
use Rattle.std.proofs.lemmas.List.Concat.{flat_map-append}
use Rattle.std.specs.List.{flat_map}
use Rattle.pz_game.specs.declared.direction.Dir.{Dir}
use Rattle.pz_program.specs.declared.instance.Instance.{Instance}
use Rattle.pz_rules.specs.declared.plan_instances.Pick.{Pick}
use Rattle.pz_plan.specs.declared.plan.Plan.{Plan}
use Rattle.pz_game.specs.declared.denotation.Denotation.{Denotation}
use Rattle.pz_instances.specs.Equal.{same_instance}
use Rattle.pz_base.specs.Lists.{firsts, with_new}
use Rattle.pz_rules.specs.PlanInstances.{instance_of, is_possible, kept_after, picks_of, possible_of}
use Rattle.pz_plan.proofs.Firsts.{firsts-append}
use Rattle.pz_instances.proofs.EqualLemmas.{same_instance-trans}

pub fold-kept_after : (layers : List ℕ) (below : ℕ) (plan : Plan) (direction : Dir) (kept : List Instance) (all : List (List Pick)) → fold (kept_after layers below plan direction) kept all ≡ fold (with_new same_instance) kept (filter is_possible (map (instance_of layers below plan direction) all))
unfolding kept_after
fold-kept_after layers below plan direction kept [] = refl
fold-kept_after layers below plan direction kept (picks ∷ all) =
    let i = instance_of layers below plan direction picks in
    let later = filter (is_possible) (map (instance_of layers below plan direction) all) in
    fold-kept_after layers below plan direction (cond (is_possible i) (with_new same_instance kept i) kept) all ∙
    ⊎_elim
    (λ e. ap (λ k. fold (with_new same_instance) k later) (cond-true (is_possible i) (with_new same_instance kept i) kept e) ∙ sym (ap (fold (with_new same_instance) kept) (cond-true (is_possible i) (i ∷ later) later e)))
    (λ e. ap (λ k. fold (with_new same_instance) k later) (cond-false (is_possible i) (with_new same_instance kept i) kept e) ∙ sym (ap (fold (with_new same_instance) kept) (cond-false (is_possible i) (i ∷ later) later e)))
    (cases_Bool (is_possible i))

-- the picks of one more direction
pub firsts-possible_more : (table : List Denotation) (layers : List ℕ) (below : ℕ) (plan : Plan) (ds : List Dir) (i : ℕ) (d : Dir) (kept : List Instance) → i < length ds → d ≡ get_or ds i d → kept ≡ firsts same_instance (flat_map (possible_of table layers below plan) (take i ds)) → fold (kept_after layers below plan d) kept (picks_of table plan d) ≡ firsts same_instance (flat_map (possible_of table layers below plan) (take (i + 1) ds))
unfolding possible_of
firsts-possible_more table layers below plan ds i d kept in_range at so_far =
    let before = flat_map (possible_of table layers below plan) (take i ds) in
    let split : flat_map (possible_of table layers below plan) (take (i + 1) ds) ≡ before ++ possible_of table layers below plan d =
    ap (flat_map (possible_of table layers below plan)) (take_more ds i d in_range ∙ ap (λ y. take i ds ++ y ∷ []) (sym at)) ∙ flat_map-append (possible_of table layers below plan) (take i ds) (d ∷ []) ∙ ap (λ l. before ++ l) (append-nil (possible_of table layers below plan d)) in
    fold-kept_after layers below plan d kept (picks_of table plan d) ∙
    ap (λ k. fold (with_new same_instance) k (possible_of table layers below plan d)) so_far ∙
    firsts-append same_instance same_instance-trans before (possible_of table layers below plan d) ∙ sym (ap (firsts same_instance) split)
