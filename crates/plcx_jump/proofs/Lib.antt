pub mod Blocks
pub mod Choices
pub mod Places
pub mod Propositions
