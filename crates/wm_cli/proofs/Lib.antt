pub mod Desks
pub mod Hands
pub mod Opening
pub mod OriginLines
pub mod RunEnds
pub mod RunImages
pub mod RunsUnopened
