pub mod Number
pub mod Table
pub mod Walk
pub mod Rules
pub mod Constructs
pub mod Limits
pub mod Format
-- how the code's types are seen
pub mod Shown
pub mod Flat
