pub mod ShownCases
pub mod ShownLaws
pub mod Runs
pub mod RunLaws
pub mod Parts
