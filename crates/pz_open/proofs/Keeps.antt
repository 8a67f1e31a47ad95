-- What is kept of a session stays right as inputs come and go.
use Rattle.std.proofs.Common.{◌≡◌, ℕ, ◌≤◌, ◌+◌, ◌-◌, Bool, true, false, List, [], ◌∷◌, ◌++◌, filter, length, nat_le, sym, subst, ap, ◌∙◌, arith, get_or, min}
use Rattle.std.specs.Prelude.{All, drop, take}
use Rattle.std.specs.List.{items_where_true, slice_range}
use Rattle.std.proofs.lemmas.List.{drop-take, length-append, length-take, take-append-le, take-take, take-append-drop, take_all}
use Rattle.std.proofs.lemmas.List.Elements.{All-cons, All-filter, All-head, All-nil, All-tail, filter_passes}
use Rattle.std.proofs.lemmas.Bool.Decides.{nat_tests}
use Rattle.pz_record.specs.declared.input.Input.{Input}
use Rattle.pz_case.specs.Plan.{PlanState}
use Rattle.pz_open.specs.declared.opened.Kept.{Kept}
use Rattle.pz_open.specs.declared.place.Place.{Place}
use Rattle.pz_open.specs.Kept.{IsKeptOf, IsStanding}

one_more : (plan : PlanState) (inputs more : List Input) (kept : Kept) → IsKeptOf plan inputs kept → IsKeptOf plan (inputs ++ more) kept
one_more plan inputs more kept is =
    let within : kept.count ≤ length inputs = is.within in
    record {
      within = let sum : length (inputs ++ more) ≡ length inputs + length more = length-append inputs more in grind (arith, sum, within);
      standing = subst (λ (before : List Input). IsStanding plan before kept.place) (sym (take-append-le kept.count inputs more is.within)) is.standing;
    }

pub all_more : (plan : PlanState) (inputs more : List Input) (kept : List Kept) → All (IsKeptOf plan inputs) kept → All (IsKeptOf plan (inputs ++ more)) kept
all_more plan inputs more kept are = λ k d low. one_more plan inputs more (get_or kept k d) (are k d low)

one_fewer : (plan : PlanState) (inputs : List Input) (count : ℕ) (kept : Kept) → kept.count ≤ count → IsKeptOf plan inputs kept → IsKeptOf plan (take count inputs) kept
one_fewer plan inputs count kept low is =
    let within : kept.count ≤ length inputs = is.within in
    record {
      within = let long : length (take count inputs) ≡ min count (length inputs) = length-take count inputs in grind (arith, long, within, low);
      standing = subst (λ (before : List Input). IsStanding plan before kept.place) (sym (take-take kept.count count inputs low)) is.standing;
    }

pub all_fewer : (plan : PlanState) (inputs : List Input) (count : ℕ) (kept : List Kept) → All (IsKeptOf plan inputs) kept → All (IsKeptOf plan (take count inputs)) (filter (λ k. nat_le k.count count) kept)
all_fewer plan inputs count kept are =
    let left : List Kept = filter (λ k. nat_le k.count count) kept in
    λ k d low. one_fewer plan inputs count (get_or left k d) (let passes = filter_passes (λ (it : Kept). nat_le it.count count) kept k d low in grind (arith, nat_tests, passes)) (All-filter (λ (it : Kept). nat_le it.count count) (IsKeptOf plan inputs) kept are k d low)

-- of elements that all have a property those that are left have it too
pub all_left : {X : Type 0} (P : X → Type 0) (told : List Bool) (xs : List X) → All P xs → All P (items_where_true told xs)
all_left P [] xs are = All-nil P
all_left P (b ∷ told) [] are = All-nil P
all_left P (true ∷ told) (x ∷ xs) are = All-cons P x (items_where_true told xs) (All-head P x xs are) (all_left P told xs (All-tail P x xs are))
all_left P (false ∷ told) (x ∷ xs) are = all_left P told xs (All-tail P x xs are)

-- where a session stands is a place behind all of its inputs
pub kept_here : (plan : PlanState) (inputs : List Input) (place : Place) → IsStanding plan inputs place → IsKeptOf plan inputs (record { count = length inputs; place = place })
kept_here plan inputs place standing = record {
  within = omega arith;
  standing = subst (λ (before : List Input). IsStanding plan before place) (sym (take_all (length inputs) inputs (omega arith))) standing;
}

-- places behind the first inputs are places of all inputs
pub all_of_first : (plan : PlanState) (inputs : List Input) (count : ℕ) (kept : List Kept) → All (IsKeptOf plan (take count inputs)) kept → All (IsKeptOf plan inputs) kept
all_of_first plan inputs count kept are = subst (λ (all : List Input). All (IsKeptOf plan all) kept) (take-append-drop count inputs) (all_more plan (take count inputs) (drop count inputs) kept are)

-- the first elements, and those behind them up to a place, are the first up to there
pub first_to : (xs : List Input) (from to : ℕ) → from ≤ to → take from xs ++ slice_range xs from to ≡ take to xs
first_to xs from to low =
    let whole : from + (to - from) ≡ to = omega arith in
    (λ i. sym (take-take from to xs low) i ++ sym (drop-take from (to - from) xs) i)
    ∙ ap (λ (n : ℕ). take from (take to xs) ++ drop from (take n xs)) whole
    ∙ take-append-drop from (take to xs)
