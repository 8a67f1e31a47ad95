-- An instance applied at all its combinations. If it has one row, each place of the row is one; without effect it leaves a level as it is.
use Rattle.pz_turn.proofs.Common.{◌≡◌, ◌<◌, ◌≤◌, List, [], ◌∷◌, ◌++◌, map, length, ap, ◌∙◌, arith, Result, Ok, fold, refl, false, append-nil, length-map, Dir, Commands, Instance, RuleRow, Place, Grid, places_or_limit, Rewriting, in_rewrite, StepFault, combinations, found_or_stop, after_row, places_of_rows, applied_at, applied_to, applied_with, given_commands, outcome_of, application_of, le-ltb, nat_tests, sym, inl, inr, zip, IsLawful, places, nothing_run, HasNoEffect, searched-gapless, searched-small, fold_stays}

map-nothing_behind : (all : List (List Place)) (behind : List Place) → behind ≡ [] → map (λ places. places ++ behind) all ≡ all
map-nothing_behind [] behind none = refl
map-nothing_behind (places ∷ all) behind none = rw (map-nothing_behind all behind none) (ap (λ (ps : List Place). ps ∷ all) (ap (λ b. places ++ b) none ∙ append-nil places))

pub applied_ends : (instance : Instance) (grid : Grid) (lists : List (List Place)) (behind : List Place) (end : Rewriting) (commands : Commands) → places_of_rows grid instance.scan instance.left ≡ Ok lists → length (combinations lists) ≤ 1048576 → behind ≡ [] → end ≡ fold (applied_at instance) (in_rewrite grid false) (map (λ places. places ++ behind) (combinations lists)) → commands ≡ given_commands (combinations lists) instance.commands → application_of instance grid ≡ Ok (outcome_of end commands)
unfolding application_of
applied_ends instance grid lists behind end commands found within none ends gave =
    grind (arith, found, le-ltb 1048576 (length (combinations lists)) within, ends, map-nothing_behind (combinations lists) behind none, gave)

-- what is found is within the limit
few_found : (grid : Grid) (row : RuleRow) (dir : Dir) (found : List Place) → found_or_stop (places_or_limit grid row dir) ≡ Ok found → length found ≤ 1048576
unfolding places_or_limit
few_found grid row dir found is = grind (arith, nat_tests, is)

-- an instance of one row goes by what is found of it: too many places, none, or some
pub row_applied : (instance : Instance) (grid : Grid) (row : RuleRow) (found : Result (List Place) StepFault) → instance.left ≡ row ∷ [] → found_or_stop (places_or_limit grid row instance.scan) ≡ found → application_of instance grid ≡ applied_with instance grid (after_row found (Ok []))
unfolding application_of
row_applied instance grid row found only is =
    ap (λ (rows : List RuleRow). applied_with instance grid (places_of_rows grid instance.scan rows)) only ∙ ap (λ (r : Result (List Place) StepFault). applied_with instance grid (after_row r (Ok []))) is

pub row_ends : (instance : Instance) (grid : Grid) (row : RuleRow) (found : List Place) (end : Rewriting) → instance.left ≡ row ∷ [] → found_or_stop (places_or_limit grid row instance.scan) ≡ Ok found → 0 < length found → end ≡ fold (applied_at instance) (in_rewrite grid false) (map (λ place. place ∷ []) found) → application_of instance grid ≡ Ok (outcome_of end instance.commands)
row_ends instance grid row [] end only is some ends = absurd (omega arith)
row_ends instance grid row (place ∷ found) end only is some ends =
    let each : List (List Place) = map (λ (p : Place). p ∷ []) (place ∷ found) in
    let few : length each ≤ 1048576 = omega (arith, few_found grid row instance.scan (place ∷ found) is, length-map (place ∷ found) (λ (p : Place). p ∷ [])) in
    row_applied instance grid row (Ok (place ∷ found)) only is ∙ ap (applied_to instance grid) (append-nil each) ∙ grind (arith, le-ltb 1048576 (length each) few, ends)

nothing_beside : (A B : Type 0) (xs : List A) → zip {K = A} {X = B} xs [] ≡ []
nothing_beside A B [] = refl
nothing_beside A B (x ∷ xs) = refl

-- without a right nothing is rewritten
not_applied : (instance : Instance) (so_far : Rewriting) (found : List Place) → instance.right ≡ [] → applied_at instance so_far found ≡ so_far
not_applied instance so_far found none = grind (arith, nothing_beside RuleRow RuleRow instance.left, nothing_beside Place (RuleRow × RuleRow) found, none)

pub applied_without_effect : (instance : Instance) (grid : Grid) → IsLawful grid → HasNoEffect grid instance → application_of instance grid ≡ Ok (nothing_run grid)
applied_without_effect instance grid lawful none = by (places grid none.row instance.scan) (ap found_or_stop (elim none.few [
  | inl gapless ↦ searched-gapless grid none.row instance.scan lawful gapless
  | inr small ↦ searched-small grid none.row instance.scan lawful small
])) where
  by : (found : List Place) → found_or_stop (places_or_limit grid none.row instance.scan) ≡ Ok found → application_of instance grid ≡ Ok (nothing_run grid)
  by [] is = row_applied instance grid none.row (Ok []) none.left is
  by (place ∷ found) is =
      row_ends instance grid none.row (place ∷ found) (in_rewrite grid false) none.left is (omega arith) (sym (fold_stays (applied_at instance) (in_rewrite grid false) (λ at. not_applied instance (in_rewrite grid false) at none.right) (map (λ (p : Place). p ∷ []) (place ∷ found))))
      ∙ ap (λ (commands : Commands). Ok (outcome_of (in_rewrite grid false) commands)) none.commands
