pub mod Due
pub mod Ends
pub mod Faults
pub mod Headline
pub mod OneAnswer
pub mod Responses
