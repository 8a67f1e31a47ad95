-- The segments of a group, run one after another, give what its instances give.
use Rattle.pz_turn.proofs.Common.{◌≡◌, ℕ, Result, Ok, Err, arith, List, [], ◌∷◌, ◌||◌, inl, inr, fold, get_or, refl, ap, sym, subst, ◌∙◌, All, flat_map, Instance, no_commands, either, Dir, IsInstanceOf, IsGroupOf, RuleRow, IsRowOf, AreRowsOf, AsksAmong, Grid, IsLawful, places, StepFault, application_of, Outcome, nothing_run, followed_by, outcome_behind, Runs, pass_of, rest_of, or_assoc, or-false, All-head, All-tail, All-take, All-drop, fold_stays, fold-append}
use Rattle.std.specs.Prelude.{◌-◌, drop}
use Rattle.pz_game.specs.Masks.{IsLow}
use Rattle.pz_program.specs.Segments.{IsLeftOut, instances_in}
use Rattle.pz_program.specs.declared.group.Segment.{Segment}
use Rattle.pz_cells.proofs.HoldLemmas.{low_of_game}
use Rattle.pz_turn.proofs.Passes.{either_assoc, either_comm}
use Rattle.pz_turn.proofs.SingleRow.{applied_without_effect}
use Rattle.pz_turn.proofs.Skipping.{IsNoneTaken, none_first, applied_none}

-- ---- a segment of a group of a game is of that game
pub segment_of_group : (layers : List ℕ) (group : List Instance) (segment : Segment) → IsGroupOf layers group → IsGroupOf layers (instances_in group segment)
segment_of_group layers group segment of_game =
    All-take (IsInstanceOf layers) (segment.end - segment.start) (drop segment.start group) (All-drop (IsInstanceOf layers) segment.start group of_game)

-- ---- outcomes one after another
joined_twice : {L : Type 0} (first second : Outcome L) (third : Result (Outcome L) StepFault)
    → outcome_behind (record { level = second.level; commands = either first.commands second.commands; changed = first.changed || second.changed }) third ≡ outcome_behind first (outcome_behind second third)
joined_twice first second third = grind (arith, either_assoc, or_assoc)

joined_none : {L : Type 0} (o : Outcome L) → outcome_behind o (Ok (nothing_run o.level)) ≡ Ok o
joined_none o = grind (arith, either_comm o.commands no_commands, or-false o.changed)

joined_follow : {L : Type 0} (o : Outcome L) (a : Result (Outcome L) StepFault) (run : Runs L) → followed_by (outcome_behind o a) run ≡ outcome_behind o (followed_by a run)
joined_follow o (Err fault) run = refl
joined_follow o (Ok p) run = joined_twice o p (run p.level)

-- ---- a pass over segments is a pass over their instances
module _ {L I : Type 0} (runs : I → Runs L) where
  abbrev step : Result (Outcome L) StepFault → I → Result (Outcome L) StepFault
  step so_far x = followed_by so_far (runs x)

  fold_joined : (o : Outcome L) (a : Result (Outcome L) StepFault) (xs : List I) → fold step (outcome_behind o a) xs ≡ outcome_behind o (fold step a xs)
  fold_joined o a [] = refl
  fold_joined o a (x ∷ xs) = ap (λ (r : Result (Outcome L) StepFault). fold step r xs) (joined_follow o a (runs x)) ∙ fold_joined o (followed_by a (runs x)) xs

  pub follow_pass : (a : Result (Outcome L) StepFault) (xs : List I) → followed_by a (pass_of runs xs) ≡ fold step a xs
  follow_pass (Err fault) xs = sym (fold_stays step (Err fault) (λ x. refl) xs)
  follow_pass (Ok o) xs = sym (fold_joined o (Ok (nothing_run o.level)) xs) ∙ ap (λ (r : Result (Outcome L) StepFault). fold step r xs) (joined_none o)

  module _ {S : Type 0} (part : S → List I) where
    fold_segments : (a : Result (Outcome L) StepFault) (segments : List S) → fold (λ so_far segment. followed_by so_far (pass_of runs (part segment))) a segments ≡ fold step a (flat_map part segments)
    fold_segments a [] = refl
    fold_segments a (segment ∷ segments) =
        let rest = flat_map part segments in
        grind (arith, fold_segments (followed_by a (pass_of runs (part segment))) segments, follow_pass a (part segment), fold-append step a (part segment) rest)

    pub pass_by_segments : (segments : List S) (level : L) → pass_of (λ segment. pass_of runs (part segment)) segments level ≡ pass_of runs (flat_map part segments) level
    pass_by_segments segments level = fold_segments (Ok (nothing_run level)) segments

-- passes that give the same on each level come to rest the same way
pub rest_by_segments : (limit : ℕ) (segments : List Segment) (group : List Instance) (level : Grid) → flat_map (instances_in group) segments ≡ group
    → rest_of limit (pass_of (λ segment. pass_of application_of (instances_in group segment)) segments) level ≡ rest_of limit (pass_of application_of group) level
rest_by_segments limit segments group level is =
    ap (λ (pass : Runs Grid). rest_of limit pass level) (λ i at. pass_by_segments application_of (instances_in group) segments at i)
    ∙ ap (λ (instances : List Instance). rest_of limit (pass_of application_of instances) level) is

-- ---- instances that leave a level as it is
pub left_pass : (grid : Grid) (xs : List Instance) → All (λ (x : Instance). application_of x grid ≡ Ok (nothing_run grid)) xs → pass_of application_of xs grid ≡ Ok (nothing_run grid)
left_pass grid [] all = refl
left_pass grid (x ∷ xs) all = grind (arith, All-head (λ (y : Instance). application_of y grid ≡ Ok (nothing_run grid)) x xs all, left_pass grid xs (All-tail (λ (y : Instance). application_of y grid ≡ Ok (nothing_run grid)) x xs all))

-- an instance that has no effect, or asks for what nothing heads in
left_out_applied : (grid : Grid) (set : List ℕ) → IsLawful grid → ((row : RuleRow) (dir : Dir) → IsRowOf grid.layers row → AsksAmong set row.cells → places grid row dir ≡ []) → (x : Instance) → IsInstanceOf grid.layers x → IsLeftOut set x → application_of x grid ≡ Ok (nothing_run grid)
left_out_applied grid set lawful nowhere x is_of (inl idle) = applied_without_effect x grid lawful (record { right = idle.right; commands = idle.commands; row = idle.row; left = idle.left; few = inl idle.gapless })
left_out_applied grid set lawful nowhere x is_of (inr moving) =
    let row = moving.row in
    let are : IsRowOf grid.layers row = All-head (IsRowOf grid.layers) row moving.rows (subst (AreRowsOf grid.layers) moving.left is_of.left) in
    let low : All (All IsLow) row.cells = λ k d within. low_of_game grid.depth grid.layers (get_or row.cells k d) lawful.layered lawful.few lawful.shallow (are k d within) in
    applied_none x grid (subst (IsNoneTaken grid x.scan) (sym moving.left) (none_first grid x.scan row moving.rows (nowhere row x.scan are (moving.asks low))))

pub left_out_pass : (grid : Grid) (set : List ℕ) (xs : List Instance) → IsLawful grid → IsGroupOf grid.layers xs → All (IsLeftOut set) xs → ((row : RuleRow) (dir : Dir) → IsRowOf grid.layers row → AsksAmong set row.cells → places grid row dir ≡ []) → pass_of application_of xs grid ≡ Ok (nothing_run grid)
left_out_pass grid set xs lawful are left nowhere = left_pass grid xs (λ k d within. left_out_applied grid set lawful nowhere (get_or xs k d) (are k d within) (left k d within))
