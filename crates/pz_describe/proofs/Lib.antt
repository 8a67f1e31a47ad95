mod WorkedDescriptions
mod DistinctTexts
mod Joining
mod CellPlaces
