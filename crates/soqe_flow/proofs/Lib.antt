pub mod CasesValid
pub mod FewerBlocks
pub mod Leading
pub mod Marked
pub mod Unique
pub mod Validity
