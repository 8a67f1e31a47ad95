-- Where something may head in a level, by its lines. The notes have at least the headings that are there.
use Rattle.std.specs.Prelude.{◌≡◌, ℕ, ◌≤◌, ◌<◌, List, [], false, length, nat_eq, ◌&&◌, ◌||◌, slice_index_or}
use Rattle.pz_sets.specs.Sets.{member, IsWithin}
use Rattle.pz_planes.specs.declared.line.Axis.{Axis}
use Rattle.pz_planes.specs.declared.line.Axis.TheVariants.{Horizontal, Vertical}

-- sets of headings: of the whole level, of each row and of each column
pub record HeadingSets : Type 0 where
  pub whole : List ℕ
  pub rows : List (List ℕ)
  pub columns : List (List ℕ)

-- the sets of the rows, or those of the columns
abbrev pub headings_of : HeadingSets → Axis → List (List ℕ)
headings_of sets Horizontal = sets.rows
headings_of sets Vertical = sets.columns

-- no heading is noted at all
pub record HaveNone (sets : HeadingSets) : Type 0 where
  pub whole : (number : ℕ) → member sets.whole number ≡ false
  pub rows : (line number : ℕ) → line < length sets.rows → member (slice_index_or sets.rows line []) number ≡ false
  pub columns : (line number : ℕ) → line < length sets.columns → member (slice_index_or sets.columns line []) number ≡ false

-- no heading is noted for the lines from one number on and before another
abbrev pub HaveNoneBetween : List (List ℕ) → ℕ → ℕ → Type 0
HaveNoneBetween sets from end = (line number : ℕ) → from ≤ line → line < end → member (slice_index_or sets line []) number ≡ false

-- the set of one line has got these headings; the others are unchanged
pub record IsMoreIn (old new : List (List ℕ)) (line : ℕ) (headings : List ℕ) : Type 0 where
  pub count : length new ≡ length old
  pub sets : (other number : ℕ) → member (slice_index_or new other []) number ≡ (member (slice_index_or old other []) number || (nat_eq other line && member headings number))

-- the sets have all that they had before
pub record IsWider (old new : HeadingSets) : Type 0 where
  pub row_count : length new.rows ≡ length old.rows
  pub column_count : length new.columns ≡ length old.columns
  pub whole : IsWithin old.whole new.whole
  pub rows : (line : ℕ) → IsWithin (slice_index_or old.rows line []) (slice_index_or new.rows line [])
  pub columns : (line : ℕ) → IsWithin (slice_index_or old.columns line []) (slice_index_or new.columns line [])
