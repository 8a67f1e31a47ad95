-- The cells of a level in an order.
use Rattle.std.specs.Prelude.{◌≡◌, ℕ, ◌+◌, ◌*◌, ◌/◌, ◌%◌, List, map}
use Rattle.std.specs.List.{range_with_len}
use Rattle.pz_sheet.specs.Grid.{Grid}
use Rattle.pz_record.specs.declared.order.Order.{Order}
use Rattle.pz_record.specs.declared.order.Order.TheVariants.{Rows, Columns}

-- row by row from the top, or column by column from the left
abbrev pub column_of : Order → Grid → ℕ → ℕ
column_of Rows grid k = k % grid.width
column_of Columns grid k = k / grid.height

abbrev pub row_of : Order → Grid → ℕ → ℕ
row_of Rows grid k = k / grid.width
row_of Columns grid k = k % grid.height

-- texts.order: the column and the row of the cell of this number
abbrev pub position_of : Order → Grid → ℕ → ℕ × ℕ
position_of order grid k = (column_of order grid k, row_of order grid k)

-- the number of the cell in this column and this row
abbrev pub number_of : Order → Grid → ℕ → ℕ → ℕ
number_of Rows grid x y = y * grid.width + x
number_of Columns grid x y = x * grid.height + y

-- the cell of this number stands in this column and this row
pub record IsAt (order : Order) (grid : Grid) (number x y : ℕ) : Type 0 where
  pub column : x ≡ column_of order grid number
  pub row : y ≡ row_of order grid number

abbrev pub cells_in : Order → Grid → List (ℕ × ℕ)
cells_in order grid = map (position_of order grid) (range_with_len 0 (grid.width * grid.height))
