pub mod Each
pub mod Adding
pub mod Levels
pub mod Standing
