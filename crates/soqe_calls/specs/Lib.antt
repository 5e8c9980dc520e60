pub mod Nodes
pub mod Shapes
pub mod Words
pub mod Answers
pub mod Problems
pub mod TextAnswers
pub mod Plans
pub mod Listed
