pub mod Tidy
pub mod Numbers
pub mod Tidies
pub mod Laws
