-- Which rows are records, and which rows a store may hold. All of it is this project's own choice.
pub mod Fields
pub mod Grammar
pub mod Kept
pub mod Sound
