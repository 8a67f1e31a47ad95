-- Whether something changed before doesn't count for what changes now.
use Rattle.std.proofs.Common.{◌≡◌, ℕ, Bool, false, ◌||◌, List, [], ◌∷◌, Option, Some, None, fold, refl, ap, sym, ◌∙◌, arith}
use Rattle.std.proofs.Math.Bool.{or-false, or_assoc}
use Rattle.std.specs.List.{enumerate_from, zip}
use Rattle.pz_game.specs.declared.direction.Dir.{Dir}
use Rattle.pz_game.specs.declared.pattern.Item.{Item}
use Rattle.pz_program.specs.declared.instance.Instance.{Instance}
use Rattle.pz_sheet.specs.Grid.{Grid}
use Rattle.pz_grid.specs.declared.placing.Place.{Place}
use Rattle.pz_grid.specs.Places.{position_of}
use Rattle.pz_grid.specs.Rewriting.{Rewriting, in_rewrite, rewritten_at, rewritten_along, rewritten_row}
use Rattle.pz_turn.specs.Applying.{applied_at}

abbrev carried : Bool → Rewriting → Rewriting
carried changed now = in_rewrite now.grid (changed || now.changed)

abbrev Carries : {A : Type 0} → (Rewriting → A → Rewriting) → Type 0
Carries {A} f = (grid : Grid) (changed : Bool) (x : A) → f (in_rewrite grid changed) x ≡ carried changed (f (in_rewrite grid false) x)

carries_fold : {A : Type 0} (f : Rewriting → A → Rewriting) → Carries f → (xs : List A) (grid : Grid) (changed : Bool) → fold f (in_rewrite grid changed) xs ≡ carried changed (fold f (in_rewrite grid false) xs)
carries_fold f carries [] grid changed = ap (in_rewrite grid) (sym (or-false changed))
carries_fold f carries (x ∷ xs) grid changed =
    let here = f (in_rewrite grid false) x in
    let later = fold f (in_rewrite here.grid false) xs in
    ap (λ (r : Rewriting). fold f r xs) (carries grid changed x) ∙ carries_fold f carries xs here.grid (changed || here.changed)
    ∙ ap (in_rewrite later.grid) (or_assoc changed here.changed later.changed)
    ∙ ap (carried changed) (sym (carries_fold f carries xs here.grid here.changed))

carries_at : (left right : List Item) → Carries (λ so_far position. rewritten_at so_far left right position)
carries_at left right grid changed None = ap (in_rewrite grid) (sym (or-false changed))
carries_at left right grid changed (Some (x, y)) = refl

carries_along : (dir : Dir) (gap_at : Option ℕ) (place : Place) → Carries (rewritten_along dir gap_at place)
carries_along dir gap_at place grid changed (k, (left, right)) = carries_at left right grid changed (position_of grid dir gap_at place k)

carries_row : (dir : Dir) → Carries (rewritten_row dir)
carries_row dir grid changed (place, (left, right)) =
    carries_fold (rewritten_along dir left.gap_at place) (carries_along dir left.gap_at place) (enumerate_from 0 (zip left.cells right.cells)) grid changed

pub carries_applied : (instance : Instance) (grid : Grid) (changed : Bool) (places : List Place)
    → applied_at instance (in_rewrite grid changed) places ≡ in_rewrite (applied_at instance (in_rewrite grid false) places).grid (changed || (applied_at instance (in_rewrite grid false) places).changed)
carries_applied instance grid changed places =
    let rows = carries_fold (rewritten_row instance.scan) (carries_row instance.scan) (zip places (zip instance.left instance.right)) grid changed in
    grind (arith, rows, or-false changed)
