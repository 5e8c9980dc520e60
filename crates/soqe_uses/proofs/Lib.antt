pub mod UsesCounted
