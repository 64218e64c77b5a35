pub mod Asked
pub mod AskTexts
pub mod Clocks
pub mod Drains
pub mod Meet
pub mod Parts
