pub mod Marks
pub mod Numbers
pub mod Fronts
pub mod Lexing
pub mod Spanned
pub mod Ordinaries
