pub mod Dress
pub mod Printed
pub mod Lines
pub mod Placed
pub mod Back
pub mod FormBack
pub mod TermBack
