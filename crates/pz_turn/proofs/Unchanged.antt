-- What has not changed is as it was.
use Rattle.pz_turn.proofs.Common.{nothing_run, arith, ◌≡◌, ℕ, ◌+◌, ◌*◌, List, [], ◌∷◌, Option, Some, None, Bool, true, false, not, fold, Result, Ok, Err, refl, ◌∙◌, IfOk, enumerate_from, zip, find, range_with_len, or_parts, set-get_or, Dir, Instance, RuleRow, Place, Grid, cell_at, position_of, Rewriting, in_rewrite, rewritten_at, rewritten_along, rewritten_row, StepFault, Given, Outcome, followed_by, outcome_behind, GivesOutcome, applied_at, given_commands, application_of, pass_of, is_last, rest_of, rests, Item, rewritten_cell, same_cell_is}
use Rattle.pz_cells.specs.Sameness.{same_cell}
use Rattle.pz_turn.proofs.Segments.{follow_pass}

-- if nothing has changed at the end, nothing had at the start, and the level is the same
abbrev pub Kept : Rewriting → Rewriting → Type 0
Kept start end = end.changed ≡ false → (start.changed ≡ false) × (end.grid ≡ start.grid)

kept_at : (so_far : Rewriting) (left right : List Item) (position : Option (ℕ × ℕ)) → Kept so_far (rewritten_at so_far left right position)
kept_at so_far left right None = λ h. (h, refl)
kept_at so_far left right (Some (x, y)) = λ h.
    let here = cell_at so_far.grid x y in
    let new = rewritten_cell left right here in
    let both = or_parts so_far.changed (not (same_cell new here)) h in
    (both.0, grind (arith, both.1, same_cell_is new here, set-get_or so_far.grid.cells (y * so_far.grid.width + x) []))

kept_fold : {A : Type 0} (f : Rewriting → A → Rewriting) → ((so_far : Rewriting) (x : A) → Kept so_far (f so_far x)) → (xs : List A) (so_far : Rewriting) → Kept so_far (fold f so_far xs)
kept_fold f keeps [] so_far = λ h. (h, refl)
kept_fold f keeps (x ∷ xs) so_far = λ h. grind (arith, kept_fold f keeps xs (f so_far x) h, keeps so_far x)

kept_along : (dir : Dir) (gap_at : Option ℕ) (place : Place) (so_far : Rewriting) (cell : ℕ × (List Item × List Item)) → Kept so_far (rewritten_along dir gap_at place so_far cell)
kept_along dir gap_at place so_far (k, (left, right)) = kept_at so_far left right (position_of so_far.grid dir gap_at place k)

kept_row : (dir : Dir) (so_far : Rewriting) (row : Place × (RuleRow × RuleRow)) → Kept so_far (rewritten_row dir so_far row)
kept_row dir so_far (place, (left, right)) = kept_fold (rewritten_along dir left.gap_at place) (kept_along dir left.gap_at place) (enumerate_from 0 (zip left.cells right.cells)) so_far

kept_applied_at : (instance : Instance) (so_far : Rewriting) (places : List Place) → Kept so_far (applied_at instance so_far places)
kept_applied_at instance so_far places h =
    grind (arith, kept_fold (rewritten_row instance.scan) (kept_row instance.scan) (zip places (zip instance.left instance.right)) so_far, h)

-- a run that gives an outcome without a change leaves the level
abbrev pub Leaves : Grid → Result (Outcome Grid) StepFault → Type 0
Leaves grid result = (o : Outcome Grid) → result ≡ Ok o → o.changed ≡ false → o.level ≡ grid

pub applied_leaves : (instance : Instance) (grid : Grid) → Leaves grid (application_of instance grid)
unfolding application_of
applied_leaves instance grid o e h = grind (arith, λ (all : List (List Place)). kept_fold (applied_at instance) (kept_applied_at instance) all (in_rewrite grid false), e, h)

-- the same of a call that answers the outcome
pub call_leaves : (grid level : Grid) (outcome : Result (Outcome Grid) StepFault) (result : Result Given StepFault) → Leaves grid outcome → GivesOutcome outcome level result → IfOk result (λ given. given.changed ≡ false → level ≡ grid)
call_leaves grid level outcome (Err fault) leaves gives = tt
call_leaves grid level outcome (Ok given) leaves gives = λ none. leaves _ gives none

leaves_more : (x : Instance) (xs : List Instance) (grid : Grid) (o : Outcome Grid) → ((level : Grid) → Leaves level (pass_of application_of xs level)) → followed_by (outcome_behind (nothing_run grid) (application_of x grid)) (pass_of application_of xs) ≡ Ok o → o.changed ≡ false → o.level ≡ grid
leaves_more x xs grid o rest both h = grind (arith, applied_leaves x grid, rest, both, h)

pub pass_leaves : (group : List Instance) (grid : Grid) → Leaves grid (pass_of application_of group grid)
pass_leaves [] grid o e h = cc
pass_leaves (x ∷ xs) grid o e h = leaves_more x xs grid o (pass_leaves xs) (follow_pass application_of (outcome_behind (nothing_run grid) (application_of x grid)) xs ∙ e) h

find_passes : (p : ℕ → Bool) (xs : List ℕ) (n : ℕ) → find p xs ≡ Some n → p n ≡ true
find_passes p [] n e = cc
find_passes p (x ∷ xs) n e = grind (arith, find_passes p xs n, e)

-- a group at rest: one more pass changes nothing
pub rest_rests : (limit : ℕ) (group : List Instance) (grid : Grid) (o : Outcome Grid) → rest_of limit (pass_of application_of group) grid ≡ Ok o → rests (pass_of application_of group o.level) ≡ true
unfolding rest_of
rest_rests limit group grid o e = grind (arith, λ (n : ℕ). find_passes (is_last (pass_of application_of group) grid) (range_with_len 0 limit) n, λ (level : Grid). pass_leaves group level, e)
