pub mod NumbersListed
pub mod NumbersChanged
pub mod TidyNumbers
pub mod TidyBinders
pub mod Tidied
pub mod TidiedAgain
pub mod TidiedBlocks
