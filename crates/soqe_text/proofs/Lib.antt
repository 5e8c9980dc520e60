mod Bindings
mod Declarings
pub mod Entries
mod Fronts
mod Lookups
mod Names
mod Numbers
mod Refusals
mod SameNames
mod Scopes
mod SpelledSorted
mod Spelling
mod FormSpelling
mod TaggedNames
mod Wrapped
