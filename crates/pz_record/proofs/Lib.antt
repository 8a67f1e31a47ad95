pub mod Sets
pub mod WorkedRecords
