pub mod Kept
pub mod RowForms
pub mod NotRows
pub mod AndRows
pub mod OrRows
pub mod ImpRows
pub mod IffRows
pub mod Options
mod Signs
pub mod Points
pub mod Vacuous
pub mod Ignoring
pub mod Solved
pub mod SolvedRows
pub mod Steps
pub mod Children
pub mod Simplifies
pub mod Simple
pub mod Settled
pub mod Readies
mod Positions
mod Finished
mod EndsOf
mod Sided
mod Quantified
mod Knowing
