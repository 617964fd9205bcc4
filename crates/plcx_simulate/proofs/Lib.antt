pub mod OneOutcome
pub mod Chosen
pub mod Simulated
pub mod Listened
pub mod Lent
pub mod Heard
