-- A piece that is still stays where it stands to the end of the movement: nothing moves it, and nothing enters its place.
use Rattle.pz_grid.proofs.Common.{IsStill, KeepsStill, List, None, Option, Pass, Piece, Some, Spot, [], arith, common_steps, fold, get_or, heading_goal, move_at, move_place, moved_to, place_at, refl, set, still_piece, ℕ, ◌*◌, ◌+◌, ◌∷◌, ◌≡◌}

-- a write to another place leaves it
still_write : (cells : List (List (Option Piece))) (i at : ℕ) (place : Option Piece) (index layer object : ℕ) → (index ≡ i → layer ≡ at → ⊥) → IsStill cells index layer object → IsStill (set cells i (set (get_or cells i []) at place)) index layer object
still_write cells i at place index layer object apart h = grind (arith, common_steps, apart, h)

pub still-moved_to : (pass : Pass) (at : Spot) (piece : Piece) (goal : ℕ × ℕ) → place_at pass.grid at.x at.y at.layer ≡ Some piece → heading_goal pass.grid at piece.heading ≡ Some goal → KeepsStill pass.grid (moved_to pass at piece (Some goal)).grid
still-moved_to pass at piece goal e g index layer object h =
    let from = at.y * pass.grid.width + at.x in
    let taken = still_write pass.grid.cells from at.layer None index layer object (λ same on. grind (arith, same, on, e, h, g)) h in
    still_write (set pass.grid.cells from (set (get_or pass.grid.cells from []) at.layer None)) (goal.1 * pass.grid.width + goal.0) at.layer (Some (still_piece piece.object)) index layer object
    (λ same on. grind (arith, same, on, h, g)) taken

-- what each move keeps, moves one after another keep
pub kept_by_moves : (P : Pass → Type 0) → ((pass : Pass) (at : Spot) (piece : Piece) (goal : ℕ × ℕ) → place_at pass.grid at.x at.y at.layer ≡ Some piece → heading_goal pass.grid at piece.heading ≡ Some goal → P pass → P (moved_to pass at piece (Some goal))) → (ats : List Spot) (pass : Pass) → P pass → P (fold move_at pass ats)
kept_by_moves P keeps [] pass h = h
kept_by_moves P keeps (at ∷ ats) pass h = kept_by_moves P keeps ats (move_at pass at) (by_place (place_at pass.grid at.x at.y at.layer) refl) where
  by_goal : (piece : Piece) → place_at pass.grid at.x at.y at.layer ≡ Some piece → (goal : Option (ℕ × ℕ)) → heading_goal pass.grid at piece.heading ≡ goal → P (moved_to pass at piece goal)
  by_goal piece e None g = h
  by_goal piece e (Some goal) g = keeps pass at piece goal e g h

  by_place : (place : Option Piece) → place_at pass.grid at.x at.y at.layer ≡ place → P (move_place pass at place)
  by_place None e = h
  by_place (Some piece) e = by_goal piece e (heading_goal pass.grid at piece.heading) refl
