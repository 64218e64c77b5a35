pub mod GrownNodes
pub mod Numbers
pub mod OpenedAgain
pub mod OpenedRows
pub mod QuietRecords
pub mod Reopened
