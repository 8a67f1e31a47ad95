-- One part of a movement or of a rewriting after another.
use Rattle.std.proofs.Common.{Bool, arith, true, ℕ, ◌*◌, ◌+◌, ◌∙◌, ◌≡◌}
use Rattle.pz_grid.specs.Marks.{IsWidenedBy}
use Rattle.pz_grid.specs.Staying.{IsMove, IsStillInColumn, IsStillInRow}
use Rattle.pz_sheet.specs.Grid.{Grid, LevelState, SameSize}

pub same_size_on : (a b d : Grid) → SameSize a b → SameSize b d → SameSize a d
same_size_on a b d p q = record { width = q.width ∙ p.width; height = q.height ∙ p.height; depth = q.depth ∙ p.depth; layers = q.layers ∙ p.layers }

-- what stands still in a line goes on standing there
row_on : (a b : LevelState) → IsMove a b → (line object : ℕ) → IsStillInRow a.grid line object → IsStillInRow b.grid line object
row_on a b p line object s = record { x = s.x; layer = s.layer; inside = omega (arith, s.inside, p.width); there = rw p.width (p.still (line * a.grid.width + s.x) s.layer object s.there) }

column_on : (a b : LevelState) → IsMove a b → (line object : ℕ) → IsStillInColumn a.grid line object → IsStillInColumn b.grid line object
column_on a b p line object s = record { y = s.y; layer = s.layer; inside = omega (arith, s.inside, p.height); there = rw p.width (p.still (s.y * a.grid.width + line) s.layer object s.there) }

-- one part of a movement after another
pub moves_on : (a b d : LevelState) → IsMove a b → IsMove b d → IsMove a d
moves_on a b d p q = record {
  width = q.width ∙ p.width;
  height = q.height ∙ p.height;
  still = λ index layer object h. q.still index layer object (p.still index layer object h);
  rows = λ line object e. grind (arith, q.rows line object e, p.rows line object, row_on b d q line object);
  columns = λ line object e. grind (arith, q.columns line object e, p.columns line object, column_on b d q line object);
}

pub widened_on : (a b d : LevelState) (p q : ℕ → Bool) → ((object : ℕ) → q object ≡ true → p object ≡ true) → IsWidenedBy a b p → IsWidenedBy b d q → IsWidenedBy a d p
widened_on a b d p q within h k = record {
  rows = λ line object e. grind (arith, k.rows line object e, h.rows line object, within object);
  columns = λ line object e. grind (arith, k.columns line object e, h.columns line object, within object);
}
