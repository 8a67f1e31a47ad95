-- Rules' cells one after another in a direction, and along a row or a column.
use Rattle.pz_sheet.proofs.Common.{common_steps, ◌≡◌, ◌⊎◌, ℕ, ◌+◌, ◌-◌, ◌<◌, ◌≤◌, List, [], ◌∷◌, Bool, true, false, ◌&&◌, length, get_or, take, arith, ap, sym, ◌∙◌, refl, list_all, enumerate_from, take_all, get_or_default, length-enumerate_from, get_or-enumerate_from, list_all_more, list_all_at, Dir, Item, Axis, Way, step_to, room_from, Grid, line_length, line_count, x_at, y_at, holds_in, dir_along, runs_in, Walk, holds_along, run_holds}
use Rattle.pz_game.specs.declared.direction.Dir.TheVariants.{Action}

-- ---- tests of a list with its numbers
pub numbered_at : {X : Type 0} (xs : List X) (i : ℕ) (x : X) → i < length xs → get_or xs i x ≡ x → get_or (enumerate_from 0 xs) i (0, x) ≡ (i, x)
numbered_at {X} xs i x within is =
    get_or-enumerate_from 0 xs i (0, x) within ∙ ap (λ (n : ℕ). let e : ℕ × X = (n, get_or xs i x) in e) (omega arith) ∙ ap (λ (y : X). let e : ℕ × X = (i, y) in e) is

-- one more element passes
pub enumerate_more : {X : Type 0} (p : ℕ × X → Bool) (xs : List X) (i : ℕ) (x : X) → i < length xs → x ≡ get_or xs i x → list_all p (take i (enumerate_from 0 xs)) ≡ true → p (i, x) ≡ true → list_all p (take (i + 1) (enumerate_from 0 xs)) ≡ true
enumerate_more p xs i x h is before here =
    let within : i < length (enumerate_from 0 xs) = omega (arith, length-enumerate_from 0 xs) in
    list_all_more p (enumerate_from 0 xs) i (0, x) within ∙ ap (λ b. b && p (get_or (enumerate_from 0 xs) i (0, x))) before ∙ ap p (numbered_at xs i x h (sym is)) ∙ here

-- an element fails
pub enumerate_fails : {X : Type 0} (p : ℕ × X → Bool) (xs : List X) (i : ℕ) (x : X) → i < length xs → x ≡ get_or xs i x → p (i, x) ≡ false → list_all p (enumerate_from 0 xs) ≡ false
enumerate_fails p xs i x h is here =
    let within : i < length (enumerate_from 0 xs) = omega (arith, length-enumerate_from 0 xs) in
    list_all_at p (enumerate_from 0 xs) i (0, x) within (ap p (numbered_at xs i x h (sym is)) ∙ here)

-- all passed
pub enumerate_all : {X : Type 0} (p : ℕ × X → Bool) (xs : List X) (i : ℕ) → length xs ≤ i → list_all p (take i (enumerate_from 0 xs)) ≡ true → list_all p (enumerate_from 0 xs) ≡ true
enumerate_all p xs i h e = ap (list_all p) (sym (take_all i (enumerate_from 0 xs) (omega (arith, length-enumerate_from 0 xs)))) ∙ e

-- ---- a rule's cell some steps on along a line
pub along_in : (grid : Grid) (axis : Axis) (number : ℕ) (way : Way) (pattern : List Item) (at k : ℕ) → number < line_count grid axis → at < line_length grid axis → k < room_from (line_length grid axis) way at
    → holds_along grid (dir_along axis way) (x_at axis number at) (y_at axis number at) (k, pattern) ≡ holds_in grid (record { axis = axis; number = number }) pattern (step_to way at k)
along_in grid axis number way pattern at k line_in at_in room = grind (arith, common_steps)

-- where there is no room for it
past_end : (grid : Grid) (axis : Axis) (number : ℕ) (way : Way) (pattern : List Item) (at k : ℕ) → at < line_length grid axis → room_from (line_length grid axis) way at ≤ k → holds_along grid (dir_along axis way) (x_at axis number at) (y_at axis number at) (k, pattern) ≡ false
past_end grid axis number way pattern at k at_in past = grind (arith, common_steps)

-- a run for which there is no room
pub run_past : (grid : Grid) (walk : Walk) (at : ℕ) (patterns : List (List Item)) → 0 < length patterns → at < line_length grid walk.line.axis → room_from (line_length grid walk.line.axis) walk.way at < length patterns → runs_in grid walk patterns at ≡ false
run_past grid walk at patterns some at_in past =
    let last = length patterns - 1 in
    let within : last < length patterns = omega (arith, some) in
    let pattern = get_or patterns last [] in
    enumerate_fails _ patterns last pattern within (get_or_default patterns last [] pattern within) (past_end grid walk.line.axis walk.line.number walk.way pattern at last at_in (omega (arith, past)))

-- a start off the map
pub run_off : (grid : Grid) (dir : Dir) (x y : ℕ) (patterns : List (List Item)) → 0 < length patterns → (grid.width ≤ x) ⊎ (grid.height ≤ y) → run_holds grid dir x y patterns ≡ false
run_off grid dir x y [] some off = absurd (omega arith)
run_off grid dir x y (pattern ∷ patterns) some off = grind (arith, common_steps)

-- the action leads nowhere
pub action_leads_nowhere : (grid : Grid) (x y : ℕ) (patterns : List (List Item)) → 0 < length patterns → run_holds grid Action x y patterns ≡ false
action_leads_nowhere grid x y [] some = absurd (omega arith)
action_leads_nowhere grid x y (pattern ∷ patterns) some = refl
