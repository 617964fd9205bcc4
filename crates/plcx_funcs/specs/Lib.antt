-- The standard functions: their table, names and pins, and what they give.
pub mod Types
pub mod Table
pub mod Names
pub mod Pins
pub mod Applied
