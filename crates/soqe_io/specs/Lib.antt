pub mod Faults
pub mod MemSource
pub mod MemSink
pub mod Pieces
pub mod Read
pub mod Repeat
pub mod Standard
pub mod Write
