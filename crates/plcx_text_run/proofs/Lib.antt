pub mod Carried
pub mod OneOutcome
