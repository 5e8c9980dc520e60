pub mod Lexical
pub mod Front
pub mod Spans
