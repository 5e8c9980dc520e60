pub mod Cased
pub mod Valid
pub mod Text
pub mod Sound
