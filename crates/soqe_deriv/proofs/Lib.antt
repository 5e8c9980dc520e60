pub mod Options
pub mod Meanings
pub mod Disjunctions
pub mod Cased
pub mod Sound
