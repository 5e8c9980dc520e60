pub mod Grammar
pub mod Pieces
pub mod Shapes
pub mod Productions
