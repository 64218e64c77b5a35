-- What the rows of a store become when it opens. All of it is this project's own choice.
pub mod Reopenings
