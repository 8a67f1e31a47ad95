-- An instance of one cell rewrites only the cells of its places, and a cell that was rewritten stays if it is rewritten again. So it
-- needn't be asked at a place whether it still holds there, and run again it changes nothing.
use Rattle.pz_turn.proofs.Common.{◌≡◌, ◌⊎◌, ℕ, zero, suc, ◌<◌, List, [], ◌∷◌, map, fold, get_or, length, Option, Some, None, Ok, Bool, true, false, ◌&&◌, cond, nat_eq, refl, ap, sym, subst, ◌∙◌, arith, inl, inr, Dir, Instance, RuleRow, AreRowsOf, IsRowOf, Place, Grid, IsLawful, cell_at, row_of_one, still_holds, along, holds_at, places, places_or_limit, Rewriting, in_rewrite, rewritten_at, found_or_stop, applied_at, outcome_of, application_of, one_rewritten, IsOfOneCell, IsCalm, common_steps, Item, Piece, kept, piece_after, new_heading, rewritten_place, rewritten_cell, Word, ext_get_or, get_or-map-range_with_len, length-map-range_with_len, cases_Bool, All-head, Contains-append_right, and-true, or-false, same_cell_self, searched-gapless, searched-gives}
use Rattle.std.specs.Prelude.{Contains}
use Rattle.pz_game.specs.Items.{placed_on, tells_of}
use Rattle.pz_game.specs.Pattern.{AreOf}
use Rattle.pz_grid.proofs.PlaceLemmas.{holds_from_place, place_from_holds}
use Rattle.pz_turn.proofs.Passes.{calm_untouched, either_self}
use Rattle.pz_turn.proofs.SingleRow.{row_applied, row_ends}

heads_again : (word : Word) (told : Bool) (here : Option Piece) (object : ℕ) → new_heading word told (Some (record { object = object; heading = new_heading word told here })) ≡ new_heading word told here
heads_again word told here object = grind arith

kept_again : (left right : List Item) (here : Option Piece) → kept left right (kept left right here) ≡ kept left right here
kept_again left right here = grind arith

replaced_again : (placed : Option Item) (told : Bool) (left right : List Item) (here : Option Piece) → piece_after placed told left right (piece_after placed told left right here) ≡ piece_after placed told left right here
replaced_again placed told left right here = grind (arith, kept_again left right here, λ (item : Item). heads_again item.word told here item.object)

-- a cell that is rewritten twice from the same left to the same right is as it was after the first time
rewritten_again : (left right : List Item) (cell : List (Option Piece)) → rewritten_cell left right (rewritten_cell left right cell) ≡ rewritten_cell left right cell
rewritten_again left right cell = ext_get_or None _ _ (size (rewritten_cell left right cell)) (λ layer within.
    let deep : layer < length cell = omega (arith, within, size (rewritten_cell left right cell), size cell) in
    at (rewritten_cell left right cell) layer (omega (arith, deep, size cell))
    ∙ ap (rewritten_place left right layer) (at cell layer deep)
    ∙ replaced_again (placed_on layer right) (tells_of layer left) left right (get_or cell layer None)
    ∙ sym (at cell layer deep)) where
      size : (c : List (Option Piece)) → length (rewritten_cell left right c) ≡ length c
      size c = length-map-range_with_len (λ layer. rewritten_place left right layer (get_or c layer None)) 0 (length c)

      at : (c : List (Option Piece)) (layer : ℕ) → layer < length c → get_or (rewritten_cell left right c) layer None ≡ rewritten_place left right layer (get_or c layer None)
      at c layer within = get_or-map-range_with_len (λ k. rewritten_place left right k (get_or c k None)) 0 (length c) layer layer None within (omega arith)

-- the only cell of rows of a game
pub cell_of : (layers : List ℕ) (rows : List RuleRow) (cell : List Item) → rows ≡ row_of_one cell ∷ [] → AreRowsOf layers rows → AreOf layers cell
cell_of layers rows cell only of = All-head (AreOf layers) cell [] (All-head (IsRowOf layers) (row_of_one cell) [] (subst (AreRowsOf layers) only of))

-- what stands at a position; off the map nothing does
abbrev cell_there : Grid → Option (ℕ × ℕ) → List (Option Piece)
cell_there grid None = []
cell_there grid (Some (x, y)) = cell_at grid x y

module _ (left right : List Item) where
  -- a cell stays if it is rewritten
  abbrev Stays : List (Option Piece) → Type 0
  Stays cell = rewritten_cell left right cell ≡ cell

  -- a row of one cell holds at a position, or doesn't, as is said, or what stands there stays
  abbrev SettledAt : Bool → Bool → Grid → Option (ℕ × ℕ) → Type 0
  SettledAt holds gapless grid at = ((gapless && (holds_at grid left at && true)) ≡ holds) ⊎ Stays (cell_there grid at)

  stays_there : (so_far : Rewriting) (at : Option (ℕ × ℕ)) → Stays (cell_there (rewritten_at so_far left right at).grid at)
  stays_there so_far None = refl
  stays_there so_far (Some (x, y)) = grind (arith, common_steps, rewritten_again left right (cell_at so_far.grid x y))

  -- that stays so where another cell is rewritten
  settled_at : (holds gapless : Bool) (so_far : Rewriting) (from at : Option (ℕ × ℕ)) → SettledAt holds gapless so_far.grid at → SettledAt holds gapless (rewritten_at so_far left right from).grid at
  settled_at holds gapless so_far None at settled = settled
  settled_at holds gapless so_far (Some (x, y)) None settled = inr refl
  settled_at holds gapless so_far (Some (x, y)) (Some (other_x, other_y)) settled =
      grind (arith, common_steps, settled, rewritten_again left right (cell_at so_far.grid x y))

  -- where a row starts doesn't depend on the cells of the level
  along_kept : (so_far : Rewriting) (from : Option (ℕ × ℕ)) (dir : Dir) (x y : ℕ) → along (rewritten_at so_far left right from).grid dir x y 0 ≡ along so_far.grid dir x y 0
  along_kept so_far from dir x y = grind arith

  -- rewriting a cell that stays leaves the level
  stays_at : (so_far : Rewriting) (at : Option (ℕ × ℕ)) → Stays (cell_there so_far.grid at) → rewritten_at so_far left right at ≡ so_far
  stays_at so_far None stay = refl
  stays_at so_far (Some (x, y)) stay = grind (arith, common_steps, stay, same_cell_self (cell_at so_far.grid x y), or-false so_far.changed)

module _ (instance : Instance) (left right : List Item) (one : IsOfOneCell instance left right) where
  abbrev row : RuleRow
  row = row_of_one left

  abbrev rewrites : Rewriting → Place → Rewriting
  rewrites = one_rewritten instance.scan left right

  abbrev asks : Rewriting → Place → Rewriting
  asks so_far place = applied_at instance so_far (place ∷ [])

  abbrev holds : Grid → Place → Bool
  holds grid place = still_holds grid instance.scan (row, place)

  -- the instance holds at a place, or doesn't, as is said, or what stands there stays
  abbrev IsSettled : Bool → Grid → Place → Type 0
  IsSettled held grid place = SettledAt left right held (nat_eq place.gap 0) grid (along grid instance.scan place.x place.y 0)

  -- that stays so where the cell is rewritten at a place
  settled_more : (held : Bool) (so_far : Rewriting) (place other : Place) → IsSettled held so_far.grid other → IsSettled held (rewrites so_far place).grid other
  settled_more held so_far place other settled =
      let from = along so_far.grid instance.scan place.x place.y 0 in
      subst (SettledAt left right held (nat_eq other.gap 0) (rewrites so_far place).grid) (sym (along_kept left right so_far from instance.scan other.x other.y)) (settled_at left right held (nat_eq other.gap 0) so_far from (along so_far.grid instance.scan other.x other.y 0) settled)

  -- and there nothing more is to do
  settled_here : (held : Bool) (so_far : Rewriting) (place : Place) → IsSettled held (rewrites so_far place).grid place
  settled_here held so_far place =
      let from = along so_far.grid instance.scan place.x place.y 0 in
      inr (subst (λ (at : Option (ℕ × ℕ)). Stays left right (cell_there (rewrites so_far place).grid at)) (sym (along_kept left right so_far from instance.scan place.x place.y)) (stays_there left right so_far from))

  settled_end : (found : List Place) (so_far : Rewriting) (other : Place) → IsSettled false so_far.grid other ⊎ Contains found other → IsSettled false (fold rewrites so_far found).grid other
  settled_end [] so_far other (inl settled) = settled
  settled_end [] so_far other (inr (k, within, is)) = absurd (omega arith)
  settled_end (place ∷ found) so_far other (inl settled) = settled_end found (rewrites so_far place) other (inl (settled_more false so_far place other settled))
  settled_end (place ∷ found) so_far other (inr (zero, within, is)) = settled_end found (rewrites so_far place) other (inl (subst (IsSettled false (rewrites so_far place).grid) is (settled_here false so_far place)))
  settled_end (place ∷ found) so_far other (inr (suc k, within, is)) = settled_end found (rewrites so_far place) other (inr (k, omega arith, is))

  -- what is applied at a place is the rewriting, if it holds there
  asks_one : (so_far : Rewriting) (place : Place) → asks so_far place ≡ cond (holds so_far.grid place) (rewrites so_far place) so_far
  asks_one so_far place = grind (arith, one.left, one.right, and-true (holds so_far.grid place))

  -- where it is settled that it holds, it is rewritten; where it is settled that it doesn't, it isn't
  asks_settled : (held : Bool) (so_far : Rewriting) (place : Place) → IsSettled held so_far.grid place → asks so_far place ≡ cond held (rewrites so_far place) so_far
  asks_settled held so_far place (inl is) = asks_one so_far place ∙ ap (λ (b : Bool). cond b (rewrites so_far place) so_far) is
  asks_settled held so_far place (inr stay) = grind (arith, asks_one so_far place, stays_at left right so_far (along so_far.grid instance.scan place.x place.y 0) stay)

  unasked : (found : List Place) (so_far : Rewriting) → ((place : Place) → Contains found place → IsSettled true so_far.grid place) → fold (applied_at instance) so_far (map (λ (p : Place). p ∷ []) found) ≡ fold rewrites so_far found
  unasked [] so_far settled = refl
  unasked (place ∷ found) so_far settled =
      grind (arith, asks_settled true so_far place (settled place (0, omega arith, refl)), unasked found (rewrites so_far place) (λ other in_found. settled_more true so_far place other (settled other (Contains-append_right (place ∷ []) found other in_found))))

  leaves : (found : List Place) (end : Grid) → ((place : Place) → IsSettled false end place) → fold (applied_at instance) (in_rewrite end false) (map (λ (p : Place). p ∷ []) found) ≡ in_rewrite end false
  leaves [] end settled = refl
  leaves (place ∷ found) end settled = grind (arith, asks_settled false (in_rewrite end false) place (settled place), leaves found end settled)

  -- what was found are all places of the row
  all_of_one : (grid : Grid) (row_now : RuleRow) (found : List Place) → instance.left ≡ row_now ∷ [] → found_or_stop (places_or_limit grid row_now instance.scan) ≡ Ok found → found ≡ places grid row instance.scan
  all_of_one grid row_now found only is = searched-gives grid row instance.scan found (grind (arith, one.left, only, is))

  module _ (grid : Grid) (found : List Place) (all : found ≡ places grid row instance.scan) where
    -- it is applied as its cell is rewritten
    applied_unasked : fold (applied_at instance) (in_rewrite grid false) (map (λ (p : Place). p ∷ []) found) ≡ fold rewrites (in_rewrite grid false) found
    applied_unasked = unasked found (in_rewrite grid false) (λ place in_found. inl (holds_from_place grid row instance.scan place (subst (λ (ps : List Place). Contains ps place) all in_found)))

    -- it is calm behind its change
    calm : (now : Grid) → (fold rewrites (in_rewrite grid false) found).grid ≡ now → IsLawful now → IsCalm application_of instance.commands now instance
    calm now is lawful = by (places now row instance.scan) (ap found_or_stop (searched-gapless now row instance.scan lawful refl)) where
      settled : (place : Place) → IsSettled false now place
      settled place = subst (λ (g : Grid). IsSettled false g place) is (settled_end found (in_rewrite grid false) place (elim (cases_Bool (holds grid place)) [
        | inl held ↦ inr (subst (λ (ps : List Place). Contains ps place) (sym all) (place_from_holds grid row instance.scan place (record { some = omega arith; short = omega arith; between = tt }) held))
        | inr fails ↦ inl (inl fails)
      ]))

      by : (held : List Place) → found_or_stop (places_or_limit now row instance.scan) ≡ Ok held → IsCalm application_of instance.commands now instance
      by [] found_now = calm_untouched application_of instance.commands now instance (row_applied instance now row (Ok []) one.left found_now)
      by (place ∷ held) found_now = record {
        gives = instance.commands;
        quiet = row_ends instance now row (place ∷ held) (in_rewrite now false) one.left found_now (omega arith) (sym (leaves (place ∷ held) now settled));
        known = either_self instance.commands;
      }

  -- how it ends, if it has places, and what is left to do then
  pub cell_ends : (grid : Grid) (row_now : RuleRow) (found : List Place) (end : Rewriting) → instance.left ≡ row_now ∷ [] → found_or_stop (places_or_limit grid row_now instance.scan) ≡ Ok found → 0 < length found → end ≡ fold rewrites (in_rewrite grid false) found
      → (application_of instance grid ≡ Ok (outcome_of end instance.commands)) × (IsLawful end.grid → IsCalm application_of instance.commands end.grid instance)
  cell_ends grid row_now found end only is some ends =
      let all = all_of_one grid row_now found only is in
      (row_ends instance grid row_now found end only is some (ends ∙ sym (applied_unasked grid found all)), calm grid found all end.grid (ap (λ (r : Rewriting). r.grid) (sym ends)))
