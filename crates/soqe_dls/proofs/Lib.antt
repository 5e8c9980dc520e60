pub mod SameRenamed
pub mod SameSubs
pub mod PairedVars
pub mod Shown
mod FoldedForms
mod FoldedTidy
mod NewParameters
mod Running
mod RunTruth
pub mod RunUnique
mod RunLost
pub mod RunBlocks
