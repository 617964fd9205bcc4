pub mod OneOutcome
pub mod Chosen
pub mod Executed
