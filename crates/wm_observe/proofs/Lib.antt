pub mod AddedPairs
pub mod ComparedPairs
pub mod NearNumbers
pub mod NoteLaws
pub mod PutRecords
pub mod Same
pub mod StepRecords
