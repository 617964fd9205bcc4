-- The standard blocks: their names and pins, one call, and what lists of calls show.
pub mod Kind
pub mod Step
pub mod Pins
pub mod History
pub mod Calls
pub mod Values
pub mod State
