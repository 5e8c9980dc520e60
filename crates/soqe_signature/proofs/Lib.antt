pub mod Declared
pub mod Faults
pub mod Kept
pub mod Placed
pub mod Structures
pub mod Borne
