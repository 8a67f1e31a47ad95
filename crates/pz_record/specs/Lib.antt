pub mod CellNames
