pub mod Checked
pub mod Exported
pub mod Judged
pub mod Read
pub mod Statuses
pub mod Sure
pub mod Written
